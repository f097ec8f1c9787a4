-- The names of a graph's codes: no two codes have one name.
use Rattle.std.proofs.Common.{◌≡◌, ℕ, zero, suc, ◌<◌, inl, inr, true, List, [], ◌∷◌, Some, length, map, slice_get, refl, sym, ap, ◌∙◌, true≢false, arith}
use Rattle.std.specs.List.{position_or_len}
use Rattle.std.proofs.lemmas.Option.{slice_get-map, slice_get_cases, none-some, same_Some}
use Rattle.tam_word.specs.Lists.{all_differ, same_bytes}
use Rattle.tam_word.proofs.Members.{get-in, in-any}
use Rattle.tam_graph.specs.Graphs.{Code, or_code}
use Rattle.tam_text.proofs.SameBytes.{same_self, same_equal}
use Rattle.tam_graph.proofs.NodeNames.{differ-behind}
use Rattle.tam_graph.proofs.FirstPlaces.{first_within, first_passes}

-- where names differ, one name stands at one place
one-place : (bs : List (List ℕ)) → all_differ same_bytes bs ≡ true → (x y : ℕ) (a : List ℕ) → slice_get bs x ≡ Some a → slice_get bs y ≡ Some a → x ≡ y
one-place [] h x y a e f = absurd (none-some a e)
one-place (b ∷ bs) h zero zero a e f = refl
one-place (b ∷ bs) h zero (suc y) a e f = let is : b ≡ a = same_Some b a e in absurd (again a (rw is at h) f)
  where
    again : (a : List ℕ) → all_differ same_bytes (a ∷ bs) ≡ true → slice_get bs y ≡ Some a → ⊥
    again a k g = true≢false (sym (in-any (same_bytes a) bs a (get-in bs y a g) (same_self a)) ∙ (differ-behind a bs k).0)
one-place (b ∷ bs) h (suc x) zero a e f = let is : b ≡ a = same_Some b a f in absurd (again a (rw is at h) e)
  where
    again : (a : List ℕ) → all_differ same_bytes (a ∷ bs) ≡ true → slice_get bs x ≡ Some a → ⊥
    again a k g = true≢false (sym (in-any (same_bytes a) bs a (get-in bs x a g) (same_self a)) ∙ (differ-behind a bs k).0)
one-place (b ∷ bs) h (suc x) (suc y) a e f = ap suc (one-place bs (differ-behind b bs h).1 x y a e f)

-- a code of the graph by its number
pub code-there : (cs : List Code) (k : ℕ) → k < length cs → slice_get cs k ≡ Some (or_code (slice_get cs k))
code-there cs k l = elim (slice_get_cases cs k).1 [
  | inl a ↦ rw a.2 refl
  | inr b ↦ absurd (let h = b.0 in omega (arith, h))
]

-- no two codes have one name
pub one-code : (cs : List Code) → all_differ same_bytes (map (λ c. c.name) cs) ≡ true → (x y : ℕ) → x < length cs → y < length cs
    → (or_code (slice_get cs x)).name ≡ (or_code (slice_get cs y)).name → x ≡ y
one-code cs h x y l m e = one-place (map (λ (c : Code). c.name) cs) h x y (or_code (slice_get cs y)).name (at x l ∙ ap Some e) (at y m)
  where
    at : (k : ℕ) → k < length cs → slice_get (map (λ (c : Code). c.name) cs) k ≡ Some (or_code (slice_get cs k)).name
    at k b = slice_get-map (λ (c : Code). c.name) cs k ∙ rw (code-there cs k b) refl

-- the first code of a name has it
pub first-called : (cs : List Code) (name : List ℕ) (k : ℕ) → k ≡ position_or_len (λ (c : Code). same_bytes name c.name) cs → k < length cs
    → (or_code (slice_get cs k)).name ≡ name
first-called cs name k is l =
    sym (same_equal name (or_code (slice_get cs k)).name
    (first_passes (λ (c : Code). same_bytes name c.name) cs (or_code (slice_get cs k)) (sym (ap (slice_get cs) is) ∙ code-there cs k l)))

-- and it is the only one
pub only-called : (cs : List Code) (name : List ℕ) → all_differ same_bytes (map (λ c. c.name) cs) ≡ true → (k : ℕ) → k < length cs
    → (or_code (slice_get cs k)).name ≡ name → position_or_len (λ (c : Code). same_bytes name c.name) cs ≡ k
only-called cs name h k l e =
    let within = first_within (λ (c : Code). same_bytes name c.name) cs k (or_code (slice_get cs k)) (code-there cs k l) (rw e (same_self name)) in
    let low : position_or_len (λ (c : Code). same_bytes name c.name) cs < length cs = omega (arith, within, l) in
    one-code cs h _ k low l (first-called cs name _ refl low ∙ sym e)
