-- Lists of entries by name.
use Rattle.std.proofs.Common.{◌≡◌, ◌≢◌, ℕ, zero, suc, ◌<◌, List, [], ◌∷◌, ◌++◌, length, take, get_or, set, map}
use Rattle.std.proofs.Common.{subst, refl, sym, ◌∙◌, ap, arith}
use Rattle.std.specs.Prelude.{String, Bool, true, false, if◌then◌else◌}
use Rattle.std.specs.declared.alloc.Global.{Global}
use Rattle.std.specs.String.{string_bytes}
use Rattle.std.specs.Str.{bytes_eq}
use Rattle.std.proofs.lemmas.Slice.Eq.{bytes_eq-Decides}
use Rattle.std.proofs.lemmas.Bool.{false_from_ne_true}
use Rattle.tam_edge.specs.Entries.{Entry, value_by, pairs_by, IsMissing, NoneNamed, IsFirstNamed}

-- the test fails at another name
differ : (a b : List ℕ) → a ≢ b → bytes_eq a b ≡ false
differ a b ne = false_from_ne_true (bytes_eq a b) (λ is. ne ((bytes_eq-Decides a b).0 is))

-- the test passes at the same name
same : (a b : List ℕ) → a ≡ b → bytes_eq a b ≡ true
same a b is = (bytes_eq-Decides a b).1 is

-- an entry at which the test passed has the name
pub named_by_test : (a b : List ℕ) (t : Bool) → t ≡ bytes_eq a b → t ≡ true → a ≡ b
named_by_test a b t is passed = (bytes_eq-Decides a b).0 (sym is ∙ passed)

-- an entry at which the test failed has another name
pub not_named_by_test : (a b : List ℕ) (t : Bool) → t ≡ bytes_eq a b → t ≡ false → a ≢ b
not_named_by_test a b t is failed at = let passed : bytes_eq a b ≡ true = same a b at in cc

module _ {X : Type 0} (name : List ℕ) where
  -- the next entry has another name too
  pub NoneNamed-more : (entries : List (Entry X)) (i : ℕ) (entry : Entry X) → NoneNamed (take i entries) name →
      entry ≡ get_or entries i entry → string_bytes entry.0 ≢ name → NoneNamed (take (suc i) entries) name
  NoneNamed-more [] i entry before at ne = tt
  NoneNamed-more (e ∷ entries) zero entry before at ne = (subst (λ (x : Entry X). string_bytes x.0 ≢ name) at ne, tt)
  NoneNamed-more (e ∷ entries) (suc i) entry before at ne = (before.0, NoneNamed-more entries i entry before.1 at ne)

  -- a name that stands at some place is not missing
  pub named_somewhere : (entries : List (Entry X)) (place : ℕ) → IsFirstNamed entries name place → ¬ NoneNamed entries name
  named_somewhere entries place first = by_place entries place first.inside first.here
    where
      by_place : (entries : List (Entry X)) (place : ℕ) → place < length entries →
          ((d : Entry X) → string_bytes (get_or entries place d).0 ≡ name) → ¬ NoneNamed entries name
      by_place [] place inside here none = absurd (omega arith)
      by_place (e ∷ entries) zero inside here none = none.0 (here e)
      by_place (e ∷ entries) (suc place) inside here none = by_place entries place (omega arith) here none.1

module _ {X Y : Type 0} (view : X → Y) (name : List ℕ) where
  -- where no entry has the name, no pair has it
  pub IsMissing-pairs_by : (entries : List (Entry X)) → NoneNamed entries name → IsMissing (pairs_by view entries) name
  IsMissing-pairs_by [] none = tt
  IsMissing-pairs_by (e ∷ entries) none = (none.0, IsMissing-pairs_by entries none.1)

  -- where no pair has the name, no entry has it
  pub NoneNamed-pairs_by : (entries : List (Entry X)) → IsMissing (pairs_by view entries) name → NoneNamed entries name
  NoneNamed-pairs_by [] missing = tt
  NoneNamed-pairs_by (e ∷ entries) missing = (missing.0, NoneNamed-pairs_by entries missing.1)

-- An entry that holds another value now, and has its name still.
module _ {X : Type 0} (entries : List (Entry X)) (place : ℕ) (d : Entry X) (value : X) where
  abbrev pub replaced : List (Entry X)
  replaced = set entries place ((get_or entries place d).0, value)

module _ {X Y : Type 0} (view : X → Y) (default : Y) (name : List ℕ) where
  -- where no entry has the name, the default is seen
  pub value_by-none : (entries : List (Entry X)) → NoneNamed entries name → value_by view default entries name ≡ default
  value_by-none [] none = refl
  value_by-none (e ∷ entries) none = rw (differ (string_bytes e.0) name none.0) (value_by-none entries none.1)

  -- the first entry of the name is seen
  pub value_by-first : (entries : List (Entry X)) (place : ℕ) (d : Entry X) → IsFirstNamed entries name place →
      value_by view default entries name ≡ view (get_or entries place d).1
  value_by-first entries place d first = by_place entries place first.inside first.before (first.here d)
    where
      by_place : (entries : List (Entry X)) (place : ℕ) → place < length entries → NoneNamed (take place entries) name →
          string_bytes (get_or entries place d).0 ≡ name → value_by view default entries name ≡ view (get_or entries place d).1
      by_place [] place inside before here = absurd (omega arith)
      by_place (e ∷ entries) zero inside before here = rw (same (string_bytes e.0) name here) refl
      by_place (e ∷ entries) (suc place) inside before here =
          rw (differ (string_bytes e.0) name before.0) (by_place entries place (omega arith) before.1 here)

  -- its new value is seen once it is replaced
  pub value_by-replaced : (entries : List (Entry X)) (place : ℕ) (d : Entry X) (value : X) → IsFirstNamed entries name place →
      value_by view default (replaced entries place d value) name ≡ view value
  value_by-replaced entries place d value first = by_place ((get_or entries place d).0, value) (first.here d) entries place first.inside first.before
    where
      by_place : (new : Entry X) → string_bytes new.0 ≡ name → (entries : List (Entry X)) (place : ℕ) → place < length entries →
          NoneNamed (take place entries) name → value_by view default (set entries place new) name ≡ view new.1
      by_place new is [] place inside before = absurd (omega arith)
      by_place new is (e ∷ entries) zero inside before = rw (same (string_bytes new.0) name is) refl
      by_place new is (e ∷ entries) (suc place) inside before =
          rw (differ (string_bytes e.0) name before.0) (by_place new is entries place (omega arith) before.1)

  -- a new entry at the end is seen where no other has the name
  pub value_by-push : (entries : List (Entry X)) (new : Entry X) → NoneNamed entries name → string_bytes new.0 ≡ name →
      value_by view default (entries ++ new ∷ []) name ≡ view new.1
  value_by-push [] new none here = rw (same (string_bytes new.0) name here) refl
  value_by-push (e ∷ entries) new none here = rw (differ (string_bytes e.0) name none.0) (value_by-push entries new none.1 here)

  module _ (other : List ℕ) (ne : other ≢ name) where
    -- of another name the same is seen once an entry is replaced
    pub value_by-replaced_other : (entries : List (Entry X)) (place : ℕ) (d : Entry X) (value : X) → IsFirstNamed entries name place →
        value_by view default (replaced entries place d value) other ≡ value_by view default entries other
    value_by-replaced_other entries place d value first = by_place ((get_or entries place d).0, value) (first.here d) entries place first.here
      where
        by_place : (new : Entry X) → string_bytes new.0 ≡ name → (entries : List (Entry X)) (place : ℕ) →
            ((d : Entry X) → string_bytes (get_or entries place d).0 ≡ name) →
            value_by view default (set entries place new) other ≡ value_by view default entries other
        by_place new is [] place here = refl
        by_place new is (e ∷ entries) zero here =
            rw (differ (string_bytes new.0) other (λ at. ne (sym at ∙ is)), differ (string_bytes e.0) other (λ at. ne (sym at ∙ here new))) refl
        by_place new is (e ∷ entries) (suc place) here = rw (by_place new is entries place here) refl

    -- and once an entry is added
    pub value_by-push_other : (entries : List (Entry X)) (new : Entry X) → string_bytes new.0 ≡ name →
        value_by view default (entries ++ new ∷ []) other ≡ value_by view default entries other
    value_by-push_other [] new is = rw (differ (string_bytes new.0) other (λ at. ne (sym at ∙ is))) refl
    value_by-push_other (e ∷ entries) new is = rw (value_by-push_other entries new is) refl

  -- a new entry at the end that shows the default changes nothing that is seen
  pub value_by-push_default : (entries : List (Entry X)) (new : Entry X) → view new.1 ≡ default →
      value_by view default (entries ++ new ∷ []) name ≡ value_by view default entries name
  value_by-push_default [] new is = either (bytes_eq (string_bytes new.0) name)
    where
      either : (t : Bool) → (if t then view new.1 else default) ≡ default
      either true = is
      either false = refl
  value_by-push_default (e ∷ entries) new is = rw (value_by-push_default entries new is) refl

  -- nor does one that may have been added
  pub value_by-push_if : (t : Bool) (entries : List (Entry X)) (new : Entry X) → view new.1 ≡ default →
      value_by view default (if t then entries ++ new ∷ [] else entries) name ≡ value_by view default entries name
  value_by-push_if true entries new is = value_by-push_default entries new is
  value_by-push_if false entries new is = refl

module _ {X : Type 0} where
  -- an entry that is replaced keeps its name
  pub names-replaced : (entries : List (Entry X)) (place : ℕ) (d : Entry X) (value : X) → place < length entries →
      map (λ (e : Entry X). e.0) (replaced entries place d value) ≡ map (λ (e : Entry X). e.0) entries
  names-replaced entries place d value inside = by_place ((get_or entries place d).0, value) entries place inside refl
    where
      by_place : (new : Entry X) (entries : List (Entry X)) (place : ℕ) → place < length entries → new.0 ≡ (get_or entries place d).0 →
          map (λ (e : Entry X). e.0) (set entries place new) ≡ map (λ (e : Entry X). e.0) entries
      by_place new [] place inside is = refl
      by_place new (e ∷ entries) zero inside is = ap (λ (n : String Global). n ∷ map (λ (e : Entry X). e.0) entries) is
      by_place new (e ∷ entries) (suc place) inside is =
          ap (λ (l : List (String Global)). e.0 ∷ l) (by_place new entries place (omega arith) is)

  -- entries of the same names are pairs of the same names
  pub names-pairs_by : {Y : Type 0} (view : X → Y) (a b : List (Entry X)) → map (λ (e : Entry X). e.0) a ≡ map (λ (e : Entry X). e.0) b →
      map (λ (p : List ℕ × Y). p.0) (pairs_by view a) ≡ map (λ (p : List ℕ × Y). p.0) (pairs_by view b)
  names-pairs_by {Y} view a b is = by_names a ∙ ap (map string_bytes) is ∙ sym (by_names b)
    where
      by_names : (entries : List (Entry X)) →
          map (λ (p : List ℕ × Y). p.0) (pairs_by view entries) ≡ map string_bytes (map (λ (e : Entry X). e.0) entries)
      by_names [] = refl
      by_names (e ∷ entries) = ap (λ (l : List (List ℕ)). string_bytes e.0 ∷ l) (by_names entries)
