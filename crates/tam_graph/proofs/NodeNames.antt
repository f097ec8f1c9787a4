-- The names of a code's nodes: no two nodes have one name.
use Rattle.std.proofs.Common.{◌≡◌, ℕ, zero, suc, Bool, true, false, List, [], ◌∷◌, Option, Some, None, map, slice_get, length, ◌<◌, refl, sym, ap, ◌∙◌, inl}
use Rattle.std.proofs.Common.{inr, true≢false}
use Rattle.std.proofs.lemmas.Option.{slice_get-map, slice_get_within, none-some, same_Some}
use Rattle.tam_word.specs.Lists.{any_of, all_differ, same_bytes}
use Rattle.tam_word.proofs.Members.{In, in-any}
use Rattle.tam_graph.specs.declared.node.Node.{Node}
use Rattle.tam_graph.specs.Graphs.{Code}
use Rattle.tam_graph.specs.Finding.{is_the_name, name_of, name_at}
use Rattle.tam_graph.specs.Reading.{given_names, IsCode}
use Rattle.tam_text.proofs.SameBytes.{same_self, same_equal}

-- a name that is there is given
given-in : (ns : List (Option (List ℕ))) (y : ℕ) (a : List ℕ) → slice_get ns y ≡ Some (Some a) → In a (given_names ns)
given-in [] y a e = absurd (none-some (Some a) e)
given-in (None ∷ ns) zero a e = absurd (none-some a (same_Some None (Some a) e))
given-in (Some b ∷ ns) zero a e = inl (same_Some b a (same_Some (Some b) (Some a) e))
given-in (None ∷ ns) (suc y) a e = given-in ns y a e
given-in (Some b ∷ ns) (suc y) a e = inr (given-in ns y a e)

-- where names differ, none behind the first is the first, and those behind it differ
pub differ-behind : (b : List ℕ) (bs : List (List ℕ)) → all_differ same_bytes (b ∷ bs) ≡ true
    → (any_of (same_bytes b) bs ≡ false) × (all_differ same_bytes bs ≡ true)
differ-behind b bs h = go (any_of (same_bytes b) bs) refl
  where
    go : (t : Bool) → any_of (same_bytes b) bs ≡ t → (any_of (same_bytes b) bs ≡ false) × (all_differ same_bytes bs ≡ true)
    go true p = absurd (true≢false (sym (rw (all_differ, p) at h)))
    go false p = (p, rw (all_differ, p) at h)

-- so the first name isn't given behind it
not-again : (a : List ℕ) (ns : List (Option (List ℕ))) (y : ℕ) → all_differ same_bytes (a ∷ given_names ns) ≡ true → slice_get ns y ≡ Some (Some a) → ⊥
not-again a ns y h e =
    true≢false (sym (in-any (same_bytes a) (given_names ns) a (given-in ns y a e) (same_self a)) ∙ (differ-behind a (given_names ns) h).0)

-- where names differ, one name stands at one place
one-place : (ns : List (Option (List ℕ))) → all_differ same_bytes (given_names ns) ≡ true → (x y : ℕ) (a : List ℕ)
    → slice_get ns x ≡ Some (Some a) → slice_get ns y ≡ Some (Some a) → x ≡ y
one-place [] h x y a e f = absurd (none-some (Some a) e)
one-place (n ∷ ns) h zero zero a e f = refl
one-place (None ∷ ns) h zero (suc y) a e f = absurd (none-some a (same_Some None (Some a) e))
one-place (None ∷ ns) h (suc x) zero a e f = absurd (none-some a (same_Some None (Some a) f))
one-place (None ∷ ns) h (suc x) (suc y) a e f = ap suc (one-place ns h x y a e f)
one-place (Some b ∷ ns) h zero (suc y) a e f = let is : b ≡ a = same_Some b a (same_Some (Some b) (Some a) e) in absurd (not-again a ns y (rw is at h) f)
one-place (Some b ∷ ns) h (suc x) zero a e f = let is : b ≡ a = same_Some b a (same_Some (Some b) (Some a) f) in absurd (not-again a ns x (rw is at h) e)
one-place (Some b ∷ ns) h (suc x) (suc y) a e f = ap suc (one-place ns (differ-behind b (given_names ns) h).1 x y a e f)

-- a node that has the name is there
pub named-there : (o : Option Node) (a : List ℕ) → name_of o ≡ Some a → (n : Node) × (o ≡ Some n) × (n.name ≡ Some a)
named-there None a e = absurd (none-some a e)
named-there (Some n) a e = (n, refl, e)

-- so its number is within the list
pub named-within : (nodes : List Node) (x : ℕ) (a : List ℕ) → name_of (slice_get nodes x) ≡ Some a → x < length nodes
named-within nodes x a e = let n = named-there (slice_get nodes x) a e in slice_get_within nodes x n.0 n.1

-- no two nodes of a code have one name
pub one-node : (c : Code) → IsCode c → (x y : ℕ) (a : List ℕ) → name_at c x ≡ Some a → name_at c y ≡ Some a → x ≡ y
one-node c h x y a e f = one-place (map (λ (n : Node). n.name) c.nodes) h.2.nodes_differ x y a (at x e) (at y f)
  where
    at : (z : ℕ) → name_at c z ≡ Some a → slice_get (map (λ (n : Node). n.name) c.nodes) z ≡ Some (Some a)
    at z k =
        let n = named-there (slice_get c.nodes z) a k in
        slice_get-map (λ (n : Node). n.name) c.nodes z ∙ rw n.1 (ap Some n.2)

-- a name that passes is the name
pub the-name : (a : List ℕ) (o : Option (List ℕ)) → is_the_name a o ≡ true → o ≡ Some a
the-name a None h = absurd (true≢false (sym h))
the-name a (Some b) h = ap Some (sym (same_equal a b h))

-- and the other way round
pub passes-name : (a : List ℕ) (o : Option (List ℕ)) → o ≡ Some a → is_the_name a o ≡ true
passes-name a None h = absurd (none-some a h)
passes-name a (Some b) h = let is : b ≡ a = same_Some b a h in rw is (same_self a)
