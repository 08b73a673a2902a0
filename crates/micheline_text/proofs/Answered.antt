-- What the reader answers, and which bytes are a text.
use Rattle.std.proofs.Common.{◌≡◌, ℕ, ◌⊎◌, inl, inr, List, length, Result, Ok, Err, refl, sym, subst, ◌∙◌}
use Rattle.std.specs.Prelude.{IfOk, IfErr}
use Rattle.micheline_text.specs.declared.fault.TextFault.{TextFault}
use Rattle.micheline_text.specs.declared.fault.TextFault.TheVariants as faults
use Rattle.micheline_text.specs.declared.node.Node.{Node}
use Rattle.micheline_text.specs.Faults.{IsFault, IsFaultOf}
use Rattle.micheline_text.specs.Told.{AnswersUnlessFull, text_fault}
use Rattle.micheline_text.specs.Grammar.{Tokens, IsText}
use Rattle.micheline_text.specs.Lexing.{tokens_of}
use Rattle.micheline_text.specs.Reading.{reading}
use Rattle.micheline_text.specs.Text.{IsTextOf}
use Rattle.micheline_text.proofs.CutRead.{cut_is_read, laid_is_cut}
use Rattle.micheline_text.proofs.FaultLaws.{fault_is}
use Rattle.micheline_text.proofs.FirstFault.{first_fault}
use Rattle.micheline_text.proofs.Found.{read_is_text}
use Rattle.micheline_text.proofs.Goes.{start}
use Rattle.micheline_text.proofs.LaidFound.{tokens_are_cut, cut_is_laid, run_proper}
use Rattle.micheline_text.proofs.OneFault.{fault_is_told}
use Rattle.micheline_text.proofs.Spelt.{text_is_read}

-- ---- texts and faults, as they are read

read_text : (b : List ℕ) (ns : List Node) → reading b ≡ Ok ns → IsTextOf b ns
read_text b ns e =
    let proper = run_proper (length b) (tokens_of 0 b) start ns e in
    (tokens_of 0 b, cut_is_laid (tokens_of 0 b) 0 b proper (tokens_are_cut b), read_is_text (length b) (tokens_of 0 b) ns e)

text_read : (b : List ℕ) (ns : List Node) → IsTextOf b ns → reading b ≡ Ok ns
text_read b ns (ts, layout, text) =
    text_is_read (length b) (tokens_of 0 b) ns (subst (λ (x : Tokens). IsText x ns) (sym (cut_is_read ts 0 b (laid_is_cut ts 0 b layout))) text)

read_fault : (b : List ℕ) (f : TextFault) → reading b ≡ Err f → IsFaultOf b f
read_fault b f e = (tokens_of 0 b, tokens_are_cut b, first_fault (length b) (tokens_of 0 b) f e)

fault_read : (b : List ℕ) (f : TextFault) → IsFaultOf b f → reading b ≡ Err f
fault_read b f (ts, cut, is) = fault_is_told (length b) (tokens_of 0 b) f (subst (λ (x : Tokens). IsFault x f) (sym (cut_is_read ts 0 b cut)) is)

-- ---- what the reader tells

pub found : (b : List ℕ) (told : Result (List Node) TextFault) → AnswersUnlessFull text_fault (λ ns. ns) told (reading b) → IfOk told (λ ns. IsTextOf b ns)
found b (Ok ns) e = read_text b ns e
found b (Err f) e = tt

pub only : (b : List ℕ) (told : Result (List Node) TextFault) (ns : List Node) → AnswersUnlessFull text_fault (λ x. x) told (reading b) → IsTextOf b ns → AnswersUnlessFull text_fault (λ x. x) told (Ok ns)
only b told ns e text = subst (AnswersUnlessFull text_fault (λ x. x) told) (text_read b ns text) e

pub fault : (b : List ℕ) (told : Result (List Node) TextFault) → AnswersUnlessFull text_fault (λ ns. ns) told (reading b) → IfErr told (λ f. (f ≡ faults.NoMemory) ⊎ IsFaultOf b f)
fault b (Ok ns) e = tt
fault b (Err faults.NoMemory) e = inl refl
fault b (Err (faults.BadToken p)) e = inr (read_fault b (faults.BadToken p) e)
fault b (Err (faults.Unclosed p)) e = inr (read_fault b (faults.Unclosed p) e)
fault b (Err (faults.WiderNumber p)) e = inr (read_fault b (faults.WiderNumber p) e)
fault b (Err (faults.TooDeep p)) e = inr (read_fault b (faults.TooDeep p) e)

-- ---- any bytes

pub either : (b : List ℕ) → ((ns : List Node) × IsTextOf b ns) ⊎ ((f : TextFault) × IsFaultOf b f)
either b = at (reading b) refl
  where
    at : (told : Result (List Node) TextFault) → reading b ≡ told → ((ns : List Node) × IsTextOf b ns) ⊎ ((f : TextFault) × IsFaultOf b f)
    at (Ok ns) e = inl (ns, read_text b ns e)
    at (Err f) e = inr (f, read_fault b f e)

pub never_both : (b : List ℕ) (ns : List Node) (f : TextFault) → IsTextOf b ns → IsFaultOf b f → ⊥
never_both b ns f text is =
    let both : Path (Result (List Node) TextFault) (Ok ns) (Err f) = sym (text_read b ns text) ∙ fault_read b f is in
    absurd cc

pub one_text : (b : List ℕ) (ns ms : List Node) → IsTextOf b ns → IsTextOf b ms → ns ≡ ms
one_text b ns ms p q =
    let both : Path (Result (List Node) TextFault) (Ok ns) (Ok ms) = sym (text_read b ns p) ∙ text_read b ms q in
    cc

pub one_fault : (b : List ℕ) (f g : TextFault) → IsFaultOf b f → IsFaultOf b g → f ≡ g
one_fault b f g p q =
    let both : Path (Result (List Node) TextFault) (Err f) (Err g) = sym (fault_read b f p) ∙ fault_read b g q in
    fault_is f g both
