-- Reading from token to token: what is open, and what each token does to it.
use Rattle.std.specs.Prelude.{ℕ, Bool, true, false, List, [], ◌∷◌, ◌++◌, length, Result, Ok, Err, nat_le, unwrap_or, slice_get, reverse, if◌then◌else◌}
use Rattle.std.specs.Option.{option_map}
use Rattle.micheline_text.specs.Grammar.{node_at}
use Rattle.micheline_text.specs.Lexing.{tokens_of}
use Rattle.micheline_text.specs.declared.fault.TextFault.{TextFault}
use Rattle.micheline_text.specs.declared.fault.TextFault.TheVariants as fault
use Rattle.micheline_text.specs.declared.node.Node.{Node}
use Rattle.micheline_text.specs.declared.node.Body.TheVariants as body
use Rattle.micheline_text.specs.declared.level.Application.{Application}
use Rattle.micheline_text.specs.declared.level.Level.{Level}
use Rattle.micheline_text.specs.declared.level.Level.TheVariants as level
use Rattle.micheline_text.specs.declared.level.Open.{Open}
use Rattle.micheline_text.specs.declared.reader.State as held
use Rattle.micheline_text.specs.declared.token.Token.{Token}
use Rattle.micheline_text.specs.declared.token.Token.TheVariants as token

-- the node of an application
abbrev pub node_of : Application → Node
node_of a = node_at a.at (body.Prim a.name a.notes a.args)

-- an application of which only the word is known
abbrev pub begun : ℕ → List ℕ → Application
begun at name = record { at = at; name = name; notes = []; args = [] }

-- one argument more
abbrev pub with_arg : Application → Node → Application
with_arg a n = record a { args = a.args ++ n ∷ [] }

-- one annotation more
abbrev pub with_note : Application → List ℕ → Application
with_note a note = record a { notes = a.notes ++ note ∷ [] }

-- the level inside those that are open, from the innermost out
abbrev pub State : Type 0
State = Level × List Open

-- the state that is held
abbrev pub shown : held.State → State
shown s = (s.level, s.opens)

-- after a node at this level; where none may stand, the token at the place is faulty
abbrev pub taken : ℕ → Level → Node → Result Level TextFault
taken at (level.Start ns) n = Ok (level.After (ns ++ n ∷ []))
taken at (level.After ns) n = Err (fault.BadToken at)
taken at (level.Args ns a) n = Ok (level.Args ns (with_arg a n))
taken at level.Head n = Err (fault.BadToken at)
taken at (level.Inner a) n = Ok (level.Inner (with_arg a n))

-- after a word
abbrev pub named : ℕ → Level → List ℕ → Result Level TextFault
named at (level.Start ns) w = Ok (level.Args ns (begun at w))
named at (level.After ns) w = Err (fault.BadToken at)
named at (level.Args ns a) w = Ok (level.Args ns (with_arg a (node_of (begun at w))))
named at level.Head w = Ok (level.Inner (begun at w))
named at (level.Inner a) w = Ok (level.Inner (with_arg a (node_of (begun at w))))

-- after an annotation
abbrev pub noted : ℕ → Level → List ℕ → Result Level TextFault
noted at (level.Start ns) note = Err (fault.BadToken at)
noted at (level.After ns) note = Err (fault.BadToken at)
noted at (level.Args ns a) note = Ok (level.Args ns (with_note a note))
noted at level.Head note = Err (fault.BadToken at)
noted at (level.Inner a) note = Ok (level.Inner (with_note a note))

-- after a `;`
abbrev pub parted : ℕ → Level → Result Level TextFault
parted at (level.Start ns) = Err (fault.BadToken at)
parted at (level.After ns) = Ok (level.Start ns)
parted at (level.Args ns a) = Ok (level.Start (ns ++ node_of a ∷ []))
parted at level.Head = Err (fault.BadToken at)
parted at (level.Inner a) = Err (fault.BadToken at)

-- the nodes of a list that ends here
abbrev pub ended : ℕ → Level → Result (List Node) TextFault
ended at (level.Start ns) = Ok ns
ended at (level.After ns) = Ok ns
ended at (level.Args ns a) = Ok (ns ++ node_of a ∷ [])
ended at level.Head = Err (fault.BadToken at)
ended at (level.Inner a) = Err (fault.BadToken at)

-- the application of a parenthesis that ends here
abbrev pub applied : ℕ → Level → Result Node TextFault
applied at (level.Start ns) = Err (fault.BadToken at)
applied at (level.After ns) = Err (fault.BadToken at)
applied at (level.Args ns a) = Err (fault.BadToken at)
applied at level.Head = Err (fault.BadToken at)
applied at (level.Inner a) = Ok (node_of a)

-- whether a literal or a sequence may stand here
abbrev pub takes_literal : Level → Bool
takes_literal (level.Start ns) = true
takes_literal (level.After ns) = false
takes_literal (level.Args ns a) = true
takes_literal level.Head = false
takes_literal (level.Inner a) = true

-- whether an argument may stand here
abbrev pub takes_argument : Level → Bool
takes_argument (level.Start ns) = false
takes_argument (level.After ns) = false
takes_argument (level.Args ns a) = true
takes_argument level.Head = false
takes_argument (level.Inner a) = true

-- one thing, and by it the next
abbrev pub after : {A B : Type 0} →
    Result A TextFault → (A → Result B TextFault) → Result B TextFault
after (Ok x) f = f x
after (Err e) f = Err e

-- the first bracket that is open, or this place
abbrev pub first_open : List Open → ℕ → ℕ
first_open os at = unwrap_or (option_map (λ o. o.at) (slice_get (reverse os) 0)) at

-- a bracket opens this level inside that one
abbrev pub opened : Bool → Level → ℕ → Level → List Open → Result State TextFault
opened allowed inner at outer os =
    if allowed then
    (if nat_le 256 (length os) then Err (fault.TooDeep at)
    else Ok (inner, record { at = at; outer = outer } ∷ os))
    else Err (fault.BadToken at)

-- the new level, inside those that are open
abbrev pub within : List Open → Result Level TextFault → Result State TextFault
within os told = after told (λ l. Ok (l, os))

-- the end of a sequence
abbrev pub close_brace : ℕ → Level → List Open → Result State TextFault
close_brace at l [] = Err (fault.BadToken at)
close_brace at l (o ∷ os) =
    after (ended at l) (λ ns. within os (taken at o.outer (node_at o.at (body.Seq ns))))

-- the end of a parenthesis
abbrev pub close_paren : ℕ → Level → List Open → Result State TextFault
close_paren at l [] = Err (fault.BadToken at)
close_paren at l (o ∷ os) = after (applied at l) (λ n. within os (taken at o.outer n))

-- a token at its place, at a level inside those that are open
abbrev pub step : ℕ → Token → Level → List Open → Result State TextFault
step at (token.Number z) l os = within os (taken at l (node_at at (body.Int z)))
step at (token.Text t) l os = within os (taken at l (node_at at (body.Text t)))
step at (token.Bytes t) l os = within os (taken at l (node_at at (body.Bytes t)))
step at (token.Word w) l os = within os (named at l w)
step at (token.Note note) l os = within os (noted at l note)
step at token.OpenBrace l os = opened (takes_literal l) (level.Start []) at l os
step at token.CloseBrace l os = close_brace at l os
step at token.OpenParen l os = opened (takes_argument l) level.Head at l os
step at token.CloseParen l os = close_paren at l os
step at token.Semicolon l os = within os (parted at l)
step at token.Wide l os = Err (if takes_literal l then fault.WiderNumber at else fault.BadToken at)
step at token.OpenText l os =
    Err (if takes_literal l then fault.Unclosed (first_open os at) else fault.BadToken at)
step at token.OpenComment l os = Err (fault.Unclosed (first_open os at))
step at token.Faulty l os = Err (fault.BadToken at)

-- the end of the text
abbrev pub finish : ℕ → Level → List Open → Result (List Node) TextFault
finish at l [] = ended at l
finish at l (o ∷ os) = Err (fault.Unclosed (first_open (o ∷ os) at))

-- the rest of a text, which ends at this place
abbrev pub run : ℕ → State → List (ℕ × Token) → Result (List Node) TextFault
run end s [] = finish end s.0 s.1
run end s (t ∷ ts) = after (step t.0 t.1 s.0 s.1) (λ next. run end next ts)

-- the nodes of a text, or its fault
abbrev pub reading : List ℕ → Result (List Node) TextFault
reading bytes = run (length bytes) (level.Start [], []) (tokens_of 0 bytes)
