-- Repetition, as a loop does it.
use Rattle.std.proofs.Common.{◌≡◌, ℕ, zero, suc, ◌-◌, ◌+◌, ◌<◌, ◌≤◌, nat_lt, max, true, false, List, [], ◌∷◌, ◌++◌, length, Ok, Err, refl, sym, ap, ◌∙◌, append_assoc, arith}
use Rattle.std.proofs.lemmas.List.{append-nil}
use Rattle.micheline_text.specs.Told.{IsTold}
use Rattle.ligo_tokens.specs.declared.token.Token.{Token}
use Rattle.ligo_tokens.specs.declared.token.Kind.{Kind}
use Rattle.ligo_tokens.specs.declared.token.Kind.TheVariants as kind
use Rattle.ligo_syntax.specs.declared.fault.Stop.{Stop}
use Rattle.ligo_syntax.specs.declared.fault.Stop.TheVariants as stop
use Rattle.ligo_syntax.specs.declared.fault.Expected.TheVariants as expected
use Rattle.ligo_syntax.specs.Kinds.{Tokens, Kinds, next, has}
use Rattle.ligo_syntax.specs.Depth.{deepest}
use Rattle.ligo_syntax.specs.Readers.{Read, Reader, then_do, one_of, both, loop, links}
use Rattle.ligo_syntax.specs.Phrases.{key, semicolons, stopped}

-- a link is taken
pub link_on : {A B : Type 0} (depth : B → ℕ) (d : ℕ) (f : B → A → B) (F : Kinds) (p : Reader A) (count i : ℕ) (b : B) (ts : Tokens) (a : A) (rest : Tokens) (total : Read B) →
    i < count → has F (next ts) ≡ true → nat_lt (depth b) d ≡ true → p ts ≡ Ok (a, rest) → links depth d f F p (count - i) b ts ≡ total →
    links depth d f F p (count - (i + 1)) (f b a) rest ≡ total
link_on depth d f F p count i b ts a rest total lt is room h so_far =
    let k : count - i ≡ suc (count - (i + 1)) = omega arith in
    let one : links depth d f F p (count - i) b ts ≡ links depth d f F p (count - (i + 1)) (f b a) rest = rw (k, is, room, h) refl in
    sym one ∙ so_far

-- there is no further one
pub links_stop : {A B : Type 0} (depth : B → ℕ) (d : ℕ) (f : B → A → B) (F : Kinds) (p : Reader A) (n : ℕ) (b : B) (ts : Tokens) (total : Read B) →
    has F (next ts) ≡ false → links depth d f F p n b ts ≡ total → total ≡ Ok (b, ts)
links_stop depth d f F p zero b ts total is so_far = sym so_far
links_stop depth d f F p (suc n) b ts total is so_far =
    let one : links depth d f F p (suc n) b ts ≡ Ok (b, ts) = rw is refl in
    sym so_far ∙ one

-- there is no room for it
pub links_full : {A B : Type 0} (depth : B → ℕ) (d : ℕ) (f : B → A → B) (F : Kinds) (p : Reader A) (count i : ℕ) (b : B) (ts : Tokens) (total : Read B) →
    i < count → has F (next ts) ≡ true → nat_lt (depth b) d ≡ false → links depth d f F p (count - i) b ts ≡ total → total ≡ Err (stop.TooDeep (length ts))
links_full depth d f F p count i b ts total lt is room so_far =
    let k : count - i ≡ suc (count - (i + 1)) = omega arith in
    let one : links depth d f F p (count - i) b ts ≡ Err (stop.TooDeep (length ts)) = rw (k, is, room) refl in
    sym so_far ∙ one

-- a depth that is less
pub is_below : (n d : ℕ) → n < d → nat_lt n d ≡ true
is_below n d lt = grind arith

-- a depth that isn't
pub is_full : (n d : ℕ) → d ≤ n → nat_lt n d ≡ false
is_full n d at_least = grind arith

-- a link fails
pub links_fail : {A B : Type 0} (e : Stop) (depth : B → ℕ) (d : ℕ) (f : B → A → B) (F : Kinds) (p : Reader A) (count i : ℕ) (b : B) (ts : Tokens) (total : Read B) →
    i < count → has F (next ts) ≡ true → nat_lt (depth b) d ≡ true → IsTold (stopped e) (p ts) → links depth d f F p (count - i) b ts ≡ total → IsTold (stopped e) total
links_fail stop.NoMemory depth d f F p count i b ts total lt is room h so_far = tt
links_fail (stop.Unexpected k n) depth d f F p count i b ts total lt is room h so_far =
    let c : count - i ≡ suc (count - (i + 1)) = omega arith in
    let one : links depth d f F p (count - i) b ts ≡ Err (stop.Unexpected k n) = rw (c, is, room, h) refl in
    sym so_far ∙ one
links_fail (stop.TooDeep n) depth d f F p count i b ts total lt is room h so_far =
    let c : count - i ≡ suc (count - (i + 1)) = omega arith in
    let one : links depth d f F p (count - i) b ts ≡ Err (stop.TooDeep n) = rw (c, is, room, h) refl in
    sym so_far ∙ one

-- ---- one after another

-- what was read before, and what is still read
abbrev pub with_front : {A : Type 0} → List A → Read (List A) → Read (List A)
with_front front read = then_do read (λ all end. Ok (front ++ all, end))

regroup : {A : Type 0} (front : List A) (a : A) (read : Read (List A)) → with_front front (then_do read (λ all end. Ok (a ∷ all, end))) ≡ with_front (front ++ a ∷ []) read
regroup front a (Ok x) = ap (λ l. Ok (l, x.1)) (sym (append_assoc front (a ∷ []) x.0))
regroup front a (Err n) = refl

pub goes_on : {A : Type 0} (p : Reader A) (F : Kinds) (front : List A) (count i : ℕ) (ts : Tokens) (a : A) (rest : Tokens) (total : Read (List A)) → i < count → has F (next ts) ≡ true →
    p ts ≡ Ok (a, rest) → with_front front (loop F p (count - i) ts) ≡ total → with_front (front ++ a ∷ []) (loop F p (count - (i + 1)) rest) ≡ total
goes_on p F front count i ts a rest total lt is h so_far =
    let k : count - i ≡ suc (count - (i + 1)) = omega arith in
    let one : with_front front (loop F p (count - i) ts) ≡ with_front (front ++ a ∷ []) (loop F p (count - (i + 1)) rest) = rw (k, is, h) (regroup front a (loop F p (count - (i + 1)) rest)) in
    sym one ∙ so_far

pub stops_at : {A : Type 0} (p : Reader A) (F : Kinds) (front : List A) (n : ℕ) (ts : Tokens) (total : Read (List A)) → has F (next ts) ≡ false → with_front front (loop F p n ts) ≡ total → total ≡ Ok (front, ts)
stops_at p F front zero ts total is so_far = sym so_far ∙ ap (λ l. Ok (l, ts)) (append-nil front)
stops_at p F front (suc n) ts total is so_far =
    let one : with_front front (loop F p (suc n) ts) ≡ Ok (front, ts) = rw is (ap (λ l. Ok (l, ts)) (append-nil front)) in
    sym so_far ∙ one

pub fails_at : {A : Type 0} (e : Stop) (p : Reader A) (F : Kinds) (front : List A) (count i : ℕ) (ts : Tokens) (total : Read (List A)) → i < count → has F (next ts) ≡ true → IsTold (stopped e) (p ts) →
    with_front front (loop F p (count - i) ts) ≡ total → IsTold (stopped e) total
fails_at stop.NoMemory p F front count i ts total lt is h so_far = tt
fails_at (stop.Unexpected k n) p F front count i ts total lt is h so_far =
    let c : count - i ≡ suc (count - (i + 1)) = omega arith in
    let one : with_front front (loop F p (count - i) ts) ≡ Err (stop.Unexpected k n) = rw (c, is, h) refl in
    sym so_far ∙ one
fails_at (stop.TooDeep n) p F front count i ts total lt is h so_far =
    let c : count - i ≡ suc (count - (i + 1)) = omega arith in
    let one : with_front front (loop F p (count - i) ts) ≡ Err (stop.TooDeep n) = rw (c, is, h) refl in
    sym so_far ∙ one

-- ---- the same behind a word

key_is : {A : Type 0} (p : Reader A) (k : Kind) (ts : Tokens) (t : Token) (mid : Tokens) (a : A) (rest : Tokens) → one_of expected.Token (k ∷ []) ts ≡ Ok (t, mid) → p mid ≡ Ok (a, rest) → key k p ts ≡ Ok (a, rest)
key_is p k ts t mid a rest h i = rw (h, i) refl

key_fails : {A : Type 0} (e : Stop) (p : Reader A) (k : Kind) (ts : Tokens) (t : Token) (mid : Tokens) → one_of expected.Token (k ∷ []) ts ≡ Ok (t, mid) → IsTold (stopped e) (p mid) → IsTold (stopped e) (key k p ts)
key_fails stop.NoMemory p k ts t mid h i = tt
key_fails (stop.Unexpected x n) p k ts t mid h i = rw (h, i) refl
key_fails (stop.TooDeep n) p k ts t mid h i = rw (h, i) refl

pub goes_on_key : {A : Type 0} (p : Reader A) (k : Kind) (front : List A) (count i : ℕ) (ts : Tokens) (t : Token) (mid : Tokens) (a : A) (rest : Tokens) (total : Read (List A)) → i < count → has (k ∷ []) (next ts) ≡ true →
    one_of expected.Token (k ∷ []) ts ≡ Ok (t, mid) → p mid ≡ Ok (a, rest) → with_front front (loop (k ∷ []) (key k p) (count - i) ts) ≡ total →
    with_front (front ++ a ∷ []) (loop (k ∷ []) (key k p) (count - (i + 1)) rest) ≡ total
goes_on_key p k front count i ts t mid a rest total lt is h j so_far = goes_on (key k p) (k ∷ []) front count i ts a rest total lt is (key_is p k ts t mid a rest h j) so_far

pub fails_key : {A : Type 0} (e : Stop) (p : Reader A) (k : Kind) (front : List A) (count i : ℕ) (ts : Tokens) (t : Token) (mid : Tokens) (total : Read (List A)) → i < count → has (k ∷ []) (next ts) ≡ true →
    one_of expected.Token (k ∷ []) ts ≡ Ok (t, mid) → IsTold (stopped e) (p mid) → with_front front (loop (k ∷ []) (key k p) (count - i) ts) ≡ total → IsTold (stopped e) total
fails_key e p k front count i ts t mid total lt is h j so_far = fails_at e (key k p) (k ∷ []) front count i ts total lt is (key_fails e p k ts t mid h j) so_far

-- ---- one and then another

pub both_is : {A B : Type 0} (p : Reader A) (q : Reader B) (ts : Tokens) (a : A) (mid : Tokens) (b : B) (rest : Tokens) → p ts ≡ Ok (a, mid) → q mid ≡ Ok (b, rest) → both p q ts ≡ Ok ((a, b), rest)
both_is p q ts a mid b rest h i = rw (h, i) refl

pub head_fails : {A B : Type 0} (e : Stop) (p : Reader A) (q : Reader B) (ts : Tokens) → IsTold (stopped e) (p ts) → IsTold (stopped e) (both p q ts)
head_fails stop.NoMemory p q ts h = tt
head_fails (stop.Unexpected x n) p q ts h = rw h refl
head_fails (stop.TooDeep n) p q ts h = rw h refl

pub second_fails : {A B : Type 0} (e : Stop) (p : Reader A) (q : Reader B) (ts : Tokens) (a : A) (mid : Tokens) → p ts ≡ Ok (a, mid) → IsTold (stopped e) (q mid) → IsTold (stopped e) (both p q ts)
second_fails stop.NoMemory p q ts a mid h i = tt
second_fails (stop.Unexpected x n) p q ts a mid h i = rw (h, i) refl
second_fails (stop.TooDeep n) p q ts a mid h i = rw (h, i) refl

-- ---- behind `;`

-- there is no further one
pub list_stops : {A : Type 0} (p : Reader A) (F : Kinds) (front : List A) (n : ℕ) (ts : Tokens) (total : Read (List A)) → has (kind.Semicolon ∷ []) (next ts) ≡ false →
    with_front front (semicolons F p n ts) ≡ total → total ≡ Ok (front, ts)
list_stops p F front zero ts total is so_far = sym so_far ∙ ap (λ l. Ok (l, ts)) (append-nil front)
list_stops p F front (suc n) ts total is so_far =
    let one : with_front front (semicolons F p (suc n) ts) ≡ Ok (front, ts) = rw is (ap (λ l. Ok (l, ts)) (append-nil front)) in
    sym so_far ∙ one

-- there is nothing behind the last mark
pub list_ends : {A : Type 0} (p : Reader A) (F : Kinds) (front : List A) (count i : ℕ) (ts : Tokens) (t : Token) (mid : Tokens) (total : Read (List A)) → i < count → has (kind.Semicolon ∷ []) (next ts) ≡ true →
    one_of expected.Token (kind.Semicolon ∷ []) ts ≡ Ok (t, mid) → has F (next mid) ≡ false → with_front front (semicolons F p (count - i) ts) ≡ total → total ≡ Ok (front, mid)
list_ends p F front count i ts t mid total lt is h ends so_far =
    let c : count - i ≡ suc (count - (i + 1)) = omega arith in
    let one : with_front front (semicolons F p (count - i) ts) ≡ Ok (front, mid) = rw (c, is, h, ends) (ap (λ l. Ok (l, mid)) (append-nil front)) in
    sym so_far ∙ one

-- one is taken
pub list_on : {A : Type 0} (p : Reader A) (F : Kinds) (front : List A) (count i : ℕ) (ts : Tokens) (t : Token) (mid : Tokens) (a : A) (rest : Tokens) (total : Read (List A)) → i < count → has (kind.Semicolon ∷ []) (next ts) ≡ true →
    one_of expected.Token (kind.Semicolon ∷ []) ts ≡ Ok (t, mid) → has F (next mid) ≡ true → p mid ≡ Ok (a, rest) → with_front front (semicolons F p (count - i) ts) ≡ total →
    with_front (front ++ a ∷ []) (semicolons F p (count - (i + 1)) rest) ≡ total
list_on p F front count i ts t mid a rest total lt is h begins j so_far =
    let c : count - i ≡ suc (count - (i + 1)) = omega arith in
    let one : with_front front (semicolons F p (count - i) ts) ≡ with_front (front ++ a ∷ []) (semicolons F p (count - (i + 1)) rest) = rw (c, is, h, begins, j) (regroup front a (semicolons F p (count - (i + 1)) rest)) in
    sym one ∙ so_far

-- one fails
pub list_fails : {A : Type 0} (e : Stop) (p : Reader A) (F : Kinds) (front : List A) (count i : ℕ) (ts : Tokens) (t : Token) (mid : Tokens) (total : Read (List A)) → i < count → has (kind.Semicolon ∷ []) (next ts) ≡ true →
    one_of expected.Token (kind.Semicolon ∷ []) ts ≡ Ok (t, mid) → has F (next mid) ≡ true → IsTold (stopped e) (p mid) → with_front front (semicolons F p (count - i) ts) ≡ total → IsTold (stopped e) total
list_fails stop.NoMemory p F front count i ts t mid total lt is h begins j so_far = tt
list_fails (stop.Unexpected x n) p F front count i ts t mid total lt is h begins j so_far =
    let c : count - i ≡ suc (count - (i + 1)) = omega arith in
    let one : with_front front (semicolons F p (count - i) ts) ≡ Err (stop.Unexpected x n) = rw (c, is, h, begins, j) refl in
    sym so_far ∙ one
list_fails (stop.TooDeep n) p F front count i ts t mid total lt is h begins j so_far =
    let c : count - i ≡ suc (count - (i + 1)) = omega arith in
    let one : with_front front (semicolons F p (count - i) ts) ≡ Err (stop.TooDeep n) = rw (c, is, h, begins, j) refl in
    sym so_far ∙ one

-- ---- the deepest of what is read

pub deepest_push : {A : Type 0} (depth : A → ℕ) (front : List A) (a : A) → deepest depth (front ++ a ∷ []) ≡ max (deepest depth front) (depth a)
deepest_push depth [] a = grind arith
deepest_push depth (b ∷ front) a =
    let so : deepest depth (front ++ a ∷ []) ≡ max (deepest depth front) (depth a) = deepest_push depth front a in
    grind arith

pub within_push : {A : Type 0} (depth : A → ℕ) (front : List A) (a : A) (d : ℕ) → deepest depth front ≤ d → depth a ≤ d → deepest depth (front ++ a ∷ []) ≤ d
within_push depth front a d all one = rw (deepest_push depth front a) (grind arith)
