-- What is read as a declaration, or as what a type is declared as, where some depth is left.
use Rattle.std.proofs.Common.{◌≡◌, ℕ, suc, true, false, [], ◌∷◌, refl}
use Rattle.ligo_tokens.specs.declared.token.Kind.TheVariants as kind
use Rattle.ligo_syntax.specs.Classes.{variant_firsts}
use Rattle.ligo_syntax.specs.Kinds.{Tokens, next, has}
use Rattle.ligo_syntax.specs.Reading.{record_type_rule, variant_type_rule, definition_at, type_decl_rule, value_decl_rule, decl_at}

pub record_there : (d k : ℕ) (ts : Tokens) → d ≡ suc k → has (kind.OpenBrace ∷ []) (next ts) ≡ true → definition_at d ts ≡ record_type_rule k ts
record_there d k ts is brace = rw (is, brace) refl

pub variant_there : (d k : ℕ) (ts : Tokens) → d ≡ suc k → has (kind.OpenBrace ∷ []) (next ts) ≡ false → has variant_firsts (next ts) ≡ true →
    definition_at d ts ≡ variant_type_rule k ts
variant_there d k ts is brace begins = rw (is, brace, begins) refl

pub type_decl_there : (d k : ℕ) (ts : Tokens) → d ≡ suc k → has (kind.Type ∷ []) (next ts) ≡ true → decl_at d ts ≡ type_decl_rule k ts
type_decl_there d k ts is word = rw (is, word) refl

pub value_decl_there : (d k : ℕ) (ts : Tokens) → d ≡ suc k → has (kind.Type ∷ []) (next ts) ≡ false → decl_at d ts ≡ value_decl_rule k ts
value_decl_there d k ts is word = rw (is, word) refl
