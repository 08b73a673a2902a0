-- What a call answers, against what a definition says.
use Rattle.std.specs.Prelude.{◌≡◌, Option, None, Some, Result, Ok, Err}
use Rattle.micheline_text.specs.declared.fault.TextFault.{TextFault}
use Rattle.micheline_text.specs.declared.fault.TextFault.TheVariants.{NoMemory}

-- the fault of a text that an answer tells, and none where memory ran out
abbrev pub text_fault : TextFault → Option TextFault
text_fault NoMemory = None
text_fault fault = Some fault

-- the fault, where there is one, is what is wanted
abbrev pub IsTold : {Y F : Type 0} → Option F → Result Y F → Type 0
IsTold None wanted = Unit {0}
IsTold (Some fault) wanted = wanted ≡ Err fault

-- seen by view, the answer is what is wanted, and so is its fault, unless memory ran out
abbrev pub AnswersUnlessFull : {X Y E F : Type 0} → (E → Option F) → (X → Y) → Result X E → Result Y F → Type 0
AnswersUnlessFull fault view (Ok x) wanted = wanted ≡ Ok (view x)
AnswersUnlessFull fault view (Err e) wanted = IsTold (fault e) wanted
