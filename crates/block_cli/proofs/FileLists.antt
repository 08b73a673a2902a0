-- Files that are read or written one after another.
use Rattle.std.proofs.Common.{◌≡◌, ◌≢◌, ℕ, zero, suc, ◌+◌, ◌≤◌, ◌<◌, Bool, true, false, cond, List, [], ◌∷◌, ◌++◌, length, take, drop, get_or, map, Option, Some, None, Result, Ok, Err, refl, sym, ap, subst, ◌∙◌, arith}
use Rattle.std.specs.Prelude.{IfSome, IsSomeAnd, is_some, is_err, find, nat_lt}
use Rattle.std.specs.Option.{option_or}
use Rattle.std.specs.List.{All}
use Rattle.std.specs.Global.{Vec}
use Rattle.std.specs.FinMap.{get, insert}
use Rattle.std.proofs.lemmas.List.{take_more, take-append-drop, length-append, length-map, map-append, get_or-map, get_or_default}
use Rattle.std.proofs.lemmas.List.Folds.{find-append}
use Rattle.std.proofs.lemmas.Bool.{lt-ltb, le-ltb}
use Rattle.std.proofs.lemmas.List.Elements.{All-append}
use Rattle.std.proofs.Math.Seq.{drop-cons}
use Rattle.edge_io.specs.Outside.{Held, Outside, Rose, GoesOn, HasRoom, ReadsFile, MakesRoom, WritesFile, most_bytes}
use Rattle.edge_io.specs.declared.files.ReadEnd.{ReadEnd}
use Rattle.edge_io.specs.declared.files.ReadEnd.TheVariants as ends
use Rattle.edge_io.specs.declared.files.Failed.{Failed}
use Rattle.block_cli.specs.Commands.{FileName}
use Rattle.block_cli.specs.declared.answer.File.{File as Made}
use Rattle.block_cli.specs.Answer.{File, first_too_long, held_after}
use Rattle.block_cli.specs.Seen.{AreWritten, StopsWriting}
use Rattle.block_cli.specs.Inputs.{AreRead, Reaches, StopsAtLong, StopsAtFault}
use Rattle.block_cli.specs.Inside.{bytes_in, file_in, files_in, HaveRoom}

-- ---- lists

-- a list is what stands before a place, what stands there, and the rest
pub split_at : {A : Type 0} (xs : List A) (i : ℕ) (x : A) → i < length xs → x ≡ get_or xs i x → xs ≡ take i xs ++ x ∷ drop (suc i) xs
split_at xs i x lt is =
    let rest : drop i xs ≡ x ∷ drop (suc i) xs = drop-cons xs i x lt ∙ ap (λ y. y ∷ drop (suc i) xs) (sym is) in
    sym (take-append-drop i xs) ∙ ap (λ ys. take i xs ++ ys) rest

pub one_more : {A : Type 0} (xs : List A) (i : ℕ) (x : A) → i < length xs → x ≡ get_or xs i x → take (i + 1) xs ≡ take i xs ++ x ∷ []
one_more xs i x lt is = take_more xs i x lt ∙ ap (λ y. take i xs ++ y ∷ []) (sym is)

-- what stands at a place of a list that is seen by f
pub seen_at : {A B : Type 0} (f : A → B) (xs : List A) (i : ℕ) (x : A) → i < length xs → x ≡ get_or xs i x → f x ≡ get_or (map f xs) i (f x)
seen_at f xs i x lt is = ap f is ∙ sym (get_or-map f xs i x (f x) lt)

pub seen_within : {A B : Type 0} (f : A → B) (xs : List A) (i : ℕ) → i < length xs → i < length (map f xs)
seen_within f xs i lt = omega (arith, length-map xs f)

-- the first element that passes a test is here, or later
pub find_here : {A : Type 0} (p : A → Bool) (xs : List A) (i : ℕ) (x : A) → find p (take i xs) ≡ None → i < length xs → x ≡ get_or xs i x → p x ≡ true → find p xs ≡ Some x
find_here p xs i x none lt is passes =
    ap (find p) (split_at xs i x lt is) ∙ find-append p (take i xs) (x ∷ drop (suc i) xs) ∙ ap (λ o. option_or o (find p (x ∷ drop (suc i) xs))) none
    ∙ ap (λ b. cond b (Some x) (find p (drop (suc i) xs))) passes

pub find_later : {A : Type 0} (p : A → Bool) (xs : List A) (i : ℕ) (x : A) → find p (take i xs) ≡ None → i < length xs → x ≡ get_or xs i x → p x ≡ false → find p (take (i + 1) xs) ≡ None
find_later p xs i x none lt is fails =
    ap (find p) (one_more xs i x lt is) ∙ find-append p (take i xs) (x ∷ []) ∙ ap (λ o. option_or o (find p (x ∷ []))) none ∙ ap (λ b. cond b (Some x) None) fails

all_one : {A : Type 0} (P : A → Type 0) (x : A) → P x → All P (x ∷ [])
all_one P x p zero d lt = p
all_one P x p (suc k) d lt = absurd (omega arith)

-- ---- counts

pub earlier : (a b c : ℕ) → a ≤ b → Rose b c → Rose a c
earlier a b c le rose = omega arith

pub goes_nowhere : (a : Outside) → GoesOn a a
goes_nowhere a = record { reads = λ q. omega arith; writes = λ q. omega arith; longs = λ q. omega arith; rooms = λ q n h. h; tells = refl }

pub goes_further : (a b c : Outside) → GoesOn a b → GoesOn b c → GoesOn a c
goes_further a b c p q = record {
  reads = λ n. omega (arith, p.reads n, q.reads n);
  writes = λ n. omega (arith, p.writes n, q.writes n);
  longs = λ n. omega (arith, p.longs n, q.longs n);
  rooms = λ n m h. q.rooms n m (p.rooms n m h);
  tells = q.tells ∙ p.tells;
}

-- ---- reading

none_read : (told : Option Held) → IfSome told (λ held. map (λ (name : FileName). get held name) [] ≡ map (λ (bytes : List ℕ). Some bytes) [])
none_read None = tt
none_read (Some held) = refl

pub nothing_read : (old : Outside) → AreRead [] [] old
nothing_read old = record { count = refl; short = λ k d lt. absurd (omega arith); told = none_read old.told }

told_more : (told : Option Held) (before : List FileName) (contents : List (List ℕ)) (name : FileName) (bytes : List ℕ) →
    IfSome told (λ held. map (λ (n : FileName). get held n) before ≡ map (λ (b : List ℕ). Some b) contents) → IfSome told (λ held. get held name ≡ Some bytes) →
    IfSome told (λ held. map (λ (n : FileName). get held n) (before ++ name ∷ []) ≡ map (λ (b : List ℕ). Some b) (contents ++ bytes ∷ []))
told_more None before contents name bytes so_far here = tt
told_more (Some held) before contents name bytes so_far here =
    map-append (λ (n : FileName). get held n) before (name ∷ [])
    ∙ ap (λ l. l ++ get held name ∷ []) so_far ∙ ap (λ o. map (λ (b : List ℕ). Some b) contents ++ o ∷ []) here
    ∙ sym (map-append (λ (b : List ℕ). Some b) contents (bytes ∷ []))

module _ (before : List FileName) (contents : List (List ℕ)) (name : FileName) (old mid new : Outside) (read : AreRead before contents old) (goes : GoesOn old mid) (same : mid.told ≡ old.told) where
  -- one more file is read whole
  pub read_more : (v : Vec ℕ) → ReadsFile mid name (Ok v) new → AreRead (before ++ name ∷ []) (contents ++ v.items ∷ []) old
  read_more v r = record {
    count = let n = read.count in omega (arith, length-append contents (v.items ∷ []), length-append before (name ∷ []));
    short = All-append (λ (bytes : List ℕ). length bytes ≤ most_bytes) contents (v.items ∷ []) read.short (all_one (λ (bytes : List ℕ). length bytes ≤ most_bytes) v.items r.short);
    told = told_more old.told before contents name v.items read.told (subst (λ (told : Option Held). IfSome told (λ held. get held name ≡ Some v.items)) same r.bytes);
  }

  module _ (names after : List FileName) (order : names ≡ before ++ name ∷ after) where
    reaches : Reaches names name old
    reaches = record { before = before; after = after; order = order; contents = contents; read = read }

    pub stops_at_fault : ReadsFile mid name (Err ends.Failed) new → StopsAtFault names name old new
    stops_at_fault r = record { reached = reaches; rose = earlier (old.read_faults name) (mid.read_faults name) (new.read_faults name) (goes.reads name) (r.failed refl) }

    pub stops_at_long : ReadsFile mid name (Err ends.TooLong) new → StopsAtLong names name old new
    stops_at_long r = record {
      reached = reaches;
      long = subst (λ (told : Option Held). IfSome told (λ held. IsSomeAnd (get held name) (λ bytes. most_bytes < length bytes))) same (r.longer refl);
      rose = earlier (old.long_reads name) (mid.long_reads name) (new.long_reads name) (goes.longs name) (r.long refl);
    }

-- one turn of the loop over names, which are seen by f
module _ {A : Type 0} (items : List A) (f : A → FileName) (i : ℕ) (d : A) (lt : i < length items) (contents : List (Vec ℕ)) (old mid new : Outside)
    (goes : GoesOn old mid) (same : mid.told ≡ old.told) (read : AreRead (take i (map f items)) (bytes_in contents) old) where
  here : f (get_or items i d) ≡ get_or (map f items) i (f (get_or items i d))
  here = seen_at f items i (get_or items i d) lt (sym (get_or_default items i (get_or items i d) d lt))

  pub read_step : (v : Vec ℕ) (more : List (Vec ℕ)) → more ≡ contents ++ v ∷ [] → ReadsFile mid (f (get_or items i d)) (Ok v) new → AreRead (take (i + 1) (map f items)) (bytes_in more) old
  read_step v more is r =
      let name = f (get_or items i d) in
      let names : take (i + 1) (map f items) ≡ take i (map f items) ++ name ∷ [] = one_more (map f items) i name (seen_within f items i lt) here in
      let bytes : bytes_in more ≡ bytes_in contents ++ v.items ∷ [] = ap bytes_in is ∙ map-append (λ (x : Vec ℕ). x.items) contents (v ∷ []) in
      let all : AreRead (take i (map f items) ++ name ∷ []) (bytes_in contents ++ v.items ∷ []) old = read_more (take i (map f items)) (bytes_in contents) name old mid new read goes same v r in
      subst (λ (l : List FileName). AreRead l (bytes_in more) old) (sym names) (subst (λ (l : List (List ℕ)). AreRead (take i (map f items) ++ name ∷ []) l old) (sym bytes) all)

  order : map f items ≡ take i (map f items) ++ f (get_or items i d) ∷ drop (suc i) (map f items)
  order = split_at (map f items) i (f (get_or items i d)) (seen_within f items i lt) here

  pub fault_step : (e : ReadEnd) → e ≡ ends.Failed → ReadsFile mid (f (get_or items i d)) (Err e) new → StopsAtFault (map f items) (f (get_or items i d)) old new
  fault_step e is r =
      let name = f (get_or items i d) in
      stops_at_fault (take i (map f items)) (bytes_in contents) name old mid new read goes same (map f items) (drop (suc i) (map f items)) order (subst (λ (x : ReadEnd). ReadsFile mid name (Err x) new) is r)

  pub long_step : (e : ReadEnd) → e ≡ ends.TooLong → ReadsFile mid (f (get_or items i d)) (Err e) new → StopsAtLong (map f items) (f (get_or items i d)) old new
  long_step e is r =
      let name = f (get_or items i d) in
      stops_at_long (take i (map f items)) (bytes_in contents) name old mid new read goes same (map f items) (drop (suc i) (map f items)) order (subst (λ (x : ReadEnd). ReadsFile mid name (Err x) new) is r)

-- ---- room

pub no_room : (seen : Outside) → HaveRoom [] seen
no_room seen k d lt = absurd (omega arith)

pub room_more : {E : Type 0} (before : List File) (file : File) (mid new : Outside) → HaveRoom before mid → MakesRoom {E = E} mid file.0 (length file.1) (Ok tt) new → HaveRoom (before ++ file ∷ []) new
room_more before file mid new room made =
    let P : File → Type 0 = λ f. HasRoom new f.0 (length f.1) in
    All-append P before (file ∷ []) (λ k d lt. made.goes.rooms _ _ (room k d lt)) (all_one P file made.room)

-- ---- writing

held_after-push : (held : Held) (files : List File) (file : File) → held_after held (files ++ file ∷ []) ≡ insert (held_after held files) file.0 file.1
held_after-push held [] file = refl
held_after-push held (f ∷ files) file = held_after-push (insert held f.0 f.1) files file

same_told : (told : Option Held) → IfSome told (λ held. told ≡ Some held)
same_told None = tt
same_told (Some held) = refl

pub nothing_written : (old : Outside) → AreWritten [] old old
nothing_written old = same_told old.told

after_one_more : (old mid new : Option Held) (before : List File) (file : File) → IfSome old (λ held. mid ≡ Some (held_after held before)) → IfSome mid (λ held. new ≡ Some (insert held file.0 file.1)) → IfSome old (λ held. new ≡ Some (held_after held (before ++ file ∷ [])))
after_one_more None mid new before file so_far now_is = tt
after_one_more (Some held) mid new before file so_far now_is =
    let now : new ≡ Some (insert (held_after held before) file.0 file.1) = subst (λ (o : Option Held). IfSome o (λ h. new ≡ Some (insert h file.0 file.1))) so_far now_is in
    now ∙ ap (λ (h : Held). Some h) (sym (held_after-push held before file))

pub written_more : (before : List File) (file : File) (old mid new : Outside) → AreWritten before old mid → WritesFile mid file.0 file.1 (Ok tt) new → AreWritten (before ++ file ∷ []) old new
written_more before file old mid new so_far w = after_one_more old.told mid.told new.told before file so_far w.written

others_by : (new : Option Held) (held : Held) (name : FileName) → is_some new ≡ true → IfSome new (λ now. (q : FileName) → q ≢ name → get now q ≡ get held q) → IsSomeAnd new (λ now. (q : FileName) → q ≢ name → get now q ≡ get held q)
others_by None held name there h = absurd cc
others_by (Some now) held name there h = h

others_after : (old mid new : Option Held) (before : List File) (name : FileName) → IfSome old (λ held. mid ≡ Some (held_after held before)) → is_some new ≡ is_some mid →
    IfSome mid (λ held. IfSome new (λ now. (q : FileName) → q ≢ name → get now q ≡ get held q)) → IfSome old (λ held. IsSomeAnd new (λ now. (q : FileName) → q ≢ name → get now q ≡ get (held_after held before) q))
others_after None mid new before name so_far tells others = tt
others_after (Some held) mid new before name so_far tells others =
    others_by new (held_after held before) name (tells ∙ ap is_some so_far)
    (subst (λ (o : Option Held). IfSome o (λ h. IfSome new (λ now. (q : FileName) → q ≢ name → get now q ≡ get h q))) so_far others)

pub stops_writing : (before after files : List File) (file : File) (old mid new : Outside) (e : Failed) → files ≡ before ++ file ∷ after → GoesOn old mid → AreWritten before old mid → WritesFile mid file.0 file.1 (Err e) new → StopsWriting files file.0 old new
stops_writing before after files file old mid new e order goes so_far w = record {
  before = before;
  bytes = file.1;
  after = after;
  order = order;
  rose = earlier (old.write_faults file.0) (mid.write_faults file.0) (new.write_faults file.0) (goes.writes file.0) w.failed;
  others = others_after old.told mid.told new.told before file.0 so_far w.goes.tells w.others;
}

-- one turn of a loop over files that are made
module _ (items : List Made) (i : ℕ) (x : Made) (lt : i < length items) (is : x ≡ get_or items i x) where
  stands : file_in x ≡ get_or (files_in items) i (file_in x)
  stands = seen_at file_in items i x lt is

  within : i < length (files_in items)
  within = seen_within file_in items i lt

  next : take (i + 1) (files_in items) ≡ take i (files_in items) ++ file_in x ∷ []
  next = one_more (files_in items) i (file_in x) within stands

  pub fits_next : first_too_long (take i (files_in items)) ≡ None → length x.bytes.items ≤ most_bytes → first_too_long (take (i + 1) (files_in items)) ≡ None
  fits_next none short = find_later (λ file. nat_lt most_bytes (length file.1)) (files_in items) i (file_in x) none within stands (le-ltb most_bytes (length x.bytes.items) short)

  pub is_too_long : first_too_long (take i (files_in items)) ≡ None → most_bytes < length x.bytes.items → first_too_long (files_in items) ≡ Some (file_in x)
  is_too_long none long = find_here (λ file. nat_lt most_bytes (length file.1)) (files_in items) i (file_in x) none within stands (lt-ltb most_bytes (length x.bytes.items) long)

  pub room_step : {E : Type 0} (n : ℕ) → n ≡ length x.bytes.items → (mid new : Outside) → HaveRoom (take i (files_in items)) mid → MakesRoom {E = E} mid x.name.now n (Ok tt) new → HaveRoom (take (i + 1) (files_in items)) new
  room_step {E} n size mid new room made =
      subst (λ (fs : List File). HaveRoom fs new) (sym next)
      (room_more {E = E} (take i (files_in items)) (file_in x) mid new room (subst (λ (k : ℕ). MakesRoom {E = E} mid x.name.now k (Ok tt) new) size made))

  pub has_room : (bytes : List ℕ) → bytes ≡ x.bytes.items → (old mid : Outside) → HaveRoom (files_in items) old → GoesOn old mid → HasRoom mid x.name.now (length bytes)
  has_room bytes same old mid room goes =
      goes.rooms x.name.now (length bytes)
      (subst (λ (b : List ℕ). HasRoom old x.name.now (length b)) (sym same)
      (subst (λ (f : File). HasRoom old f.0 (length f.1)) (sym stands) (room i (file_in x) within)))

  module _ (bytes : List ℕ) (same : bytes ≡ x.bytes.items) (old mid new : Outside) (goes : GoesOn old mid) (so_far : AreWritten (take i (files_in items)) old mid) where
    pub stop_step : (r : Result Unit Failed) → is_err r ≡ true → WritesFile mid x.name.now bytes r new → StopsWriting (files_in items) x.name.now old new
    stop_step (Ok u) failed w = absurd cc
    stop_step (Err e) failed w =
        stops_writing (take i (files_in items)) (drop (suc i) (files_in items)) (files_in items) (file_in x) old mid new e (split_at (files_in items) i (file_in x) within stands) goes so_far
        (subst (λ (b : List ℕ). WritesFile mid x.name.now b (Err e) new) same w)

    pub write_step : (r : Result Unit Failed) → is_err r ≡ false → WritesFile mid x.name.now bytes r new → AreWritten (take (i + 1) (files_in items)) old new
    write_step (Err e) written w = absurd cc
    write_step (Ok u) written w =
        subst (λ (fs : List File). AreWritten fs old new) (sym next)
        (written_more (take i (files_in items)) (file_in x) old mid new so_far (subst (λ (b : List ℕ). WritesFile mid x.name.now b (Ok tt) new) same w))
