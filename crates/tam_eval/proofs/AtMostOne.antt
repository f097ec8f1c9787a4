-- An `in` and a merge of a place are one node at most, and what joins after such a node got a word.
use Rattle.std.proofs.Common.{◌≡◌, ℕ, ◌≤◌, Bool, true, List, [], ◌∷◌, Option, Some, None, length, filter, map, flat_map, slice_get, inl, refl, sym, ap, ◌∙◌}
use Rattle.std.proofs.Common.{arith}
use Rattle.std.proofs.lemmas.List.{append-nil}
use Rattle.tam_word.specs.Lists.{has}
use Rattle.tam_word.proofs.Sifted.{first_of-one}
use Rattle.tam_word.proofs.Members.{in-has}
use Rattle.tam_graph.specs.declared.kind.Kind.{Kind}
use Rattle.tam_graph.specs.Graphs.{Graph, Code, kind_at, nodes_in, node_numbers, node_where, node_in, owner_of, one_or_none, is_merge}
use Rattle.tam_world.specs.Worlds.{World, its_code, word_at, has_word, got, all_got, merges_of}
use Rattle.tam_eval.specs.GraphRuns.{is_enabled, joins}
use Rattle.tam_world.specs.Takers.{takers_of, takers_now}
use Rattle.tam_eval.proofs.Accessors.{IsLive}
use Rattle.tam_eval.proofs.Joins.{joins-got, joins-got_any, joins-got_again, joins-unchanged}

-- a node of a kind is one at most
pub node_where-one : (c : Code) (test : Kind → Bool) → length (node_where c test) ≤ 1
node_where-one c test = first_of-one (λ x. test (kind_at c x)) (node_numbers c)

-- and so in one block
pub node_in-one : (c : Code) (b : ℕ) (test : Kind → Bool) → length (node_in c b test) ≤ 1
node_in-one c b test = first_of-one (λ x. test (kind_at c x)) (nodes_in c b)

-- a block has one cond at most
pub owner_of-one : (c : Code) (b : ℕ) → length (owner_of c b) ≤ 1
owner_of-one c b = go (slice_get c.owners b)
  where
    go : (o : Option (Option ℕ)) → length (one_or_none o) ≤ 1
    go None = omega arith
    go (Some None) = omega arith
    go (Some (Some d)) = omega arith

-- one cond at most has one merge of a place at most
pub merges_of-one : (c : Code) (k : ℕ) (owners : List ℕ) → length owners ≤ 1 → length (merges_of c k owners) ≤ 1
merges_of-one c k [] l = omega arith
merges_of-one c k (d ∷ []) l = rw (append-nil (node_where c (is_merge d k))) (node_where-one c (is_merge d k))
merges_of-one c k (d ∷ (e ∷ more)) l = absurd (omega arith)

-- so has the cond of a block
pub merges_of-owner : (c : Code) (k b : ℕ) → length (merges_of c k (owner_of c b)) ≤ 1
merges_of-owner c k b = merges_of-one c k (owner_of c b) (owner_of-one c b)

-- no node gets a word
pub all_got-none : (w : World) (i v : ℕ) → all_got w i [] v ≡ w
all_got-none w i v = refl

-- one node gets a word
pub all_got-one : (w : World) (i y v : ℕ) → all_got w i (y ∷ []) v ≡ got w i y v
all_got-one w i y v = refl

-- after one node at most got its first word, those of its takers that may fire join
pub joins-all_got : (g : Graph) (w : World) (i : ℕ) (ys : List ℕ) (v : ℕ) → IsLive w i → length ys ≤ 1
    → ((y : ℕ) → has ys y ≡ true → word_at w i y ≡ None)
    → joins g w (all_got w i ys v) ≡ map (λ x. (i, x)) (filter (is_enabled g (all_got w i ys v) i) (flat_map (takers_of (its_code g w i)) ys))
joins-all_got g w i [] v l one h = joins-unchanged g w
joins-all_got g w i (y ∷ []) v l one h =
    joins-got g w i y v l (h y (in-has (y ∷ []) y (inl refl)))
    ∙ ap (λ xs. map (λ x. (i, x)) (filter (is_enabled g (got w i y v) i) xs)) (sym (append-nil (takers_of (its_code g w i) y)))
joins-all_got g w i (y ∷ (z ∷ more)) v l one h = absurd (omega arith)

-- after one node at most got a word that had one, none joins
pub joins-all_got_again : (g : Graph) (w : World) (i : ℕ) (ys : List ℕ) (v : ℕ) → length ys ≤ 1
    → ((y : ℕ) → has ys y ≡ true → has_word w i y ≡ true) → joins g w (all_got w i ys v) ≡ []
joins-all_got_again g w i [] v one h = joins-unchanged g w
joins-all_got_again g w i (y ∷ []) v one h = joins-got_again g w i y v (h y (in-has (y ∷ []) y (inl refl)))
joins-all_got_again g w i (y ∷ (z ∷ more)) v one h = absurd (omega arith)

-- in any case those of its takers that may fire join, if it had no word
pub joins-all_got_any : (g : Graph) (w : World) (i : ℕ) (ys : List ℕ) (v : ℕ) → length ys ≤ 1
    → joins g w (all_got w i ys v) ≡ map (λ x. (i, x)) (filter (is_enabled g (all_got w i ys v) i) (flat_map (takers_now g w i) ys))
joins-all_got_any g w i [] v one = joins-unchanged g w
joins-all_got_any g w i (y ∷ []) v one =
    joins-got_any g w i y v
    ∙ ap (λ xs. map (λ x. (i, x)) (filter (is_enabled g (got w i y v) i) xs)) (sym (append-nil (takers_now g w i y)))
joins-all_got_any g w i (y ∷ (z ∷ more)) v one = absurd (omega arith)
