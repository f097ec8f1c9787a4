-- Sets of names.
use Rattle.std.proofs.Common.{◌≡◌, ℕ, Bool, true, false, cond, List, [], ◌∷◌, ◌++◌, ◌||◌, map, reverse, refl, sym, ap, ◌∙◌, Bor, true≢false}
use Rattle.std.specs.List.{list_any}
use Rattle.std.specs.Str.{bytes_eq}
use Rattle.std.proofs.lemmas.List.{reverse-append}
use Rattle.indexmap.specs.IndexSet.{insert_key}
use Rattle.tam_word.specs.Lists.{any_of, same_bytes}
use Rattle.tam_text.proofs.SameBytes.{same_bytes_is}
use Rattle.tam_read.specs.SaidView.{texts}
use Rattle.tam_read.specs.Faults.{some_shared}
use Rattle.tam_read.proofs.Among.{any_of-reverse}

-- a choice whose first way is true is one of two
first_then : (t u : Bool) → (elim t [ true ↦ true | false ↦ u ]) ≡ (t || u)
first_then true u = refl
first_then false u = refl

-- a key among keys, by either test
pub any-keys : (name : List ℕ) (ks : List (Bor (List ℕ))) → any_of (same_bytes name) (texts ks) ≡ list_any (λ k. bytes_eq name k.now) ks
any-keys name [] = refl
any-keys name (k ∷ ks) = first_then (same_bytes name k.now) (any_of (same_bytes name) (texts ks))
    ∙ ap (λ t. t || any_of (same_bytes name) (texts ks)) (same_bytes_is name k.now) ∙ ap (λ u. bytes_eq name k.now || u) (any-keys name ks)

-- the same, where the latest comes first
pub kept-keys : (name : List ℕ) (ks : List (Bor (List ℕ))) → any_of (same_bytes name) (texts (reverse ks)) ≡ list_any (λ k. bytes_eq name k.now) ks
kept-keys name ks = any_of-reverse (same_bytes name) (λ t. t.now) ks ∙ any-keys name ks

-- a new name comes first
pub pushed-key : (name : Bor (List ℕ)) (ks new : List (Bor (List ℕ))) → any_of (same_bytes name.now) (texts (reverse ks)) ≡ false
    → new ≡ insert_key (λ x y. bytes_eq x.now y.now) ks name
    → texts (reverse new) ≡ name.now ∷ texts (reverse ks)
pushed-key name ks new absent is =
    let none : list_any (λ k. bytes_eq name.now k.now) ks ≡ false = sym (kept-keys name.now ks) ∙ absent in
    let last : insert_key (λ x y. bytes_eq x.now y.now) ks name ≡ ks ++ name ∷ [] = ap (λ t. cond t ks (ks ++ name ∷ [])) none in
    ap (λ l. texts (reverse l)) (is ∙ last) ∙ ap texts (reverse-append ks (name ∷ []))

-- one name that isn't shared
pub alone : (name : List ℕ) (names others : List (List ℕ)) → names ≡ name ∷ [] → some_shared names others ≡ false → any_of (same_bytes name) others ≡ false
alone name names others e h = go (any_of (same_bytes name) others) refl
  where
    go : (t : Bool) → any_of (same_bytes name) others ≡ t → any_of (same_bytes name) others ≡ false
    go false p = p
    go true p = absurd (true≢false (sym (ap (λ ns. some_shared ns others) e ∙ rw (any_of, p) refl) ∙ h))
