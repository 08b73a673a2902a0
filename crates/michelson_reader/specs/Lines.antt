-- The lines of a printed script.
use Rattle.std.specs.Prelude.{◌≡◌, ◌≢◌, ℕ, IsTrue, List, [], ◌∷◌, ◌++◌, codes}
use Rattle.std.specs.List.{list_all}
use Rattle.micheline_text.specs.Kinds.{is_plain}

-- bytes from blank to tilde, which aren't `end`
abbrev pub IsLine : List ℕ → Type 0
IsLine line = IsTrue (list_all is_plain line) × (line ≢ codes "end")

-- three of them, each with a newline behind it
pub record AreThreeLines (text : List ℕ) : Type 0 where
  pub parameter : List ℕ
  pub storage : List ℕ
  pub code : List ℕ
  pub parted : text ≡ parameter ++ 10 ∷ (storage ++ 10 ∷ (code ++ 10 ∷ []))
  pub parameter_line : IsLine parameter
  pub storage_line : IsLine storage
  pub code_line : IsLine code
