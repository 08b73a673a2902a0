-- Fields that are read one after another, each of which has a name for those behind it.
use Rattle.byte_fields.specs.Readers.{Reader, with}

-- in a `do` block: the field that stands next, under its name
abbrev pub ◌>>=◌ : {A B : Type 0} → Reader A → (A → Reader B) → Reader B
◌>>=◌ = with

-- a field that has no name, since its value is known
abbrev pub ◌>>◌ : {B : Type 0} → Reader (Unit {0}) → Reader B → Reader B
◌>>◌ first second = with first (λ known. second)
