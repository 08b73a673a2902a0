-- What an answer says of bytes, by the verdict of them.
use Rattle.std.proofs.Common.{◌≡◌, ℕ, List, subst, Result, Ok, Err, IfOk, IfErr}
use Rattle.micheline_text.specs.Told.{AnswersUnlessFull}
use Rattle.ligo_tokens.specs.Layout.{AreLaid}
use Rattle.ligo_tokens.specs.Lexing.{tokens_of}
use Rattle.ligo_tokens.specs.declared.token.Token.{Token}
use Rattle.ligo_syntax.specs.declared.fault.SyntaxRefusal.{SyntaxRefusal}
use Rattle.ligo_syntax.specs.declared.fault.SyntaxRefusal.TheVariants as refusal
use Rattle.ligo_syntax.specs.declared.program.Program.{Program}
use Rattle.ligo_syntax.specs.Faults.{IsTextOf}
use Rattle.ligo_syntax.specs.Verdict.{verdict, told_fault, IsRefusalOf}
use Rattle.ligo_syntax.proofs.Verdicts.{read_is_text, told_is_fault, text_is_read}

pub found : (b : List ℕ) (laid : AreLaid 0 b (tokens_of 0 b)) (r : Result Program SyntaxRefusal) → AnswersUnlessFull told_fault (λ x. x) r (verdict b) → IfOk r (λ p. IsTextOf b p)
found b laid (Ok p) h = read_is_text b laid p h
found b laid (Err e) h = tt

pub only : (b : List ℕ) (one : (ts : List Token) → AreLaid 0 b ts → tokens_of 0 b ≡ ts) (r : Result Program SyntaxRefusal) (p : Program) → AnswersUnlessFull told_fault (λ x. x) r (verdict b) → IsTextOf b p → AnswersUnlessFull told_fault (λ x. x) r (Ok p)
only b one r p h text = subst (AnswersUnlessFull told_fault (λ x. x) r) (text_is_read b one p text) h

pub fault : (b : List ℕ) (laid : AreLaid 0 b (tokens_of 0 b)) (r : Result Program SyntaxRefusal) → AnswersUnlessFull told_fault (λ x. x) r (verdict b) → IfErr r (λ e. IsRefusalOf b e)
fault b laid (Ok p) h = tt
fault b laid (Err refusal.NoMemory) h = tt
fault b laid (Err (refusal.Fault f)) h = told_is_fault b laid f h
