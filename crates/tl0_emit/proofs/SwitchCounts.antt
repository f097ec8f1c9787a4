-- How many switches each cond has, node by node.
use Rattle.std.proofs.Common.{◌≡◌, ◌≢◌, ℕ, ◌+◌, ◌<◌, ◌≤◌, Bool, true, false, ◌==◌, List, map, drop, length, get_or, slice_index, slice_set, refl, sym, ap, ◌∙◌}
use Rattle.std.proofs.Common.{arith}
use Rattle.std.proofs.lemmas.List.{get_or-set_same, get_or-set_other, drop_all}
use Rattle.std.proofs.lemmas.List.Sums.{sum_by-drop_more, count_by-le-length}
use Rattle.tam_word.proofs.Tests.{self-eq, differs-number, number-eq, number-differs}
use Rattle.tam_graph.specs.declared.node.Node.{Node}
use Rattle.tam_graph.specs.declared.kind.Kind.{Kind}
use Rattle.tam_graph.specs.declared.kind.Kind.TheVariants.{Switch as Choose}
use Rattle.tam_graph.specs.Graphs.{Code, node_numbers}
use Rattle.tam_graph.specs.NodeLists.{number_where}
use Rattle.tam_graph.specs.Accepted.{is_switch_of}
use Rattle.tam_graph.proofs.Counting.{counted}
use Rattle.tam_order.proofs.ClassNumbers.{numbers-are}
use Rattle.tl0_keep.specs.Compiled.{switches_of}
use Rattle.tl0_emit.proofs.ClassFlows.{bit}

-- what isn't a switch is none of any cond
pub no-switch : (k : Kind) → ((d p a : ℕ) → k ≡ Choose d p a → ⊥) → (e : ℕ) → is_switch_of e k ≡ false
no-switch (Choose d p a) h e = absurd (h d p a refl)
no-switch k h e = refl

-- so far each node has its switches, counted and to come
abbrev pub Counted : List Node → List ℕ → ℕ → Type 0
Counted nodes counts i =
    (d : ℕ) → d < length nodes → slice_index counts d + number_where (is_switch_of d) (drop i nodes) ≡ number_where (is_switch_of d) nodes

-- the next node is this one
pub record IsNext (nodes : List Node) (counts : List ℕ) (i : ℕ) (n : Node) : Type 0 where
  pub there : i < length nodes
  pub is : n ≡ get_or nodes i n
  pub before : Counted nodes counts i

-- it is a switch of cond e
pub record IsSwitchOf (nodes : List Node) (counts : List ℕ) (i : ℕ) (n : Node) (e : ℕ) : Type 0 where
  pub next : IsNext nodes counts i n
  pub of : (d : ℕ) → is_switch_of d n.kind ≡ (e == d)
  pub low : e < length counts

-- one node less is to come
one-less : (nodes : List Node) (counts : List ℕ) (i : ℕ) (n : Node) → IsNext nodes counts i n → (d : ℕ)
    → number_where (is_switch_of d) (drop i nodes) ≡ bit (is_switch_of d n.kind) + number_where (is_switch_of d) (drop (i + 1) nodes)
one-less nodes counts i n h d =
    sum_by-drop_more (λ (m : Node). bit (is_switch_of d m.kind)) nodes i n h.there
    ∙ ap (λ (m : Node). bit (is_switch_of d m.kind) + number_where (is_switch_of d) (drop (i + 1) nodes)) (sym h.is)

-- a node that isn't a switch counts for none
pub other-counted : (nodes : List Node) (counts : List ℕ) (i : ℕ) (n : Node) → IsNext nodes counts i n → ((d : ℕ) → is_switch_of d n.kind ≡ false)
    → Counted nodes counts (i + 1)
other-counted nodes counts i n h none d l =
    let o = one-less nodes counts i n h d in
    let z : bit (is_switch_of d n.kind) ≡ bit false = ap bit (none d) in
    let b = h.before d l in
    omega (arith, o, z, b)

-- a switch counts for its cond
pub switch-counted : (nodes : List Node) (counts : List ℕ) (i : ℕ) (n : Node) (e : ℕ) → IsSwitchOf nodes counts i n e
    → Counted nodes (slice_set counts e (slice_index counts e + 1)) (i + 1)
switch-counted nodes counts i n e h d m = go (d == e) refl
  where
    go : (t : Bool) → (d == e) ≡ t
        → slice_index (slice_set counts e (slice_index counts e + 1)) d + number_where (is_switch_of d) (drop (i + 1) nodes)
        ≡ number_where (is_switch_of d) nodes
    go true q =
        let same : d ≡ e = number-eq d e q in
        let o = one-less nodes counts i n h.next d in
        let z : bit (is_switch_of d n.kind) ≡ bit true = ap bit (h.of d ∙ (ap (λ x. e == x) same ∙ self-eq e)) in
        let b = h.next.before d m in
        let r : slice_index (slice_set counts e (slice_index counts e + 1)) d ≡ slice_index counts d + 1 =
        ap (slice_index (slice_set counts e (slice_index counts e + 1))) same
        ∙ (get_or-set_same counts e (slice_index counts e + 1) 0 h.low ∙ ap (λ x. slice_index counts x + 1) (sym same)) in
        omega (arith, o, z, b, r)
    go false q =
        let differ : d ≢ e = number-differs d e q in
        let o = one-less nodes counts i n h.next d in
        let z : bit (is_switch_of d n.kind) ≡ bit false = ap bit (h.of d ∙ differs-number e d (λ r. differ (sym r))) in
        let b = h.next.before d m in
        let r : slice_index (slice_set counts e (slice_index counts e + 1)) d ≡ slice_index counts d =
        get_or-set_other counts e d (slice_index counts e + 1) 0 differ in
        omega (arith, o, z, b, r)

-- a count is no more than the nodes
pub count-few : (nodes : List Node) (counts : List ℕ) (i d : ℕ) → Counted nodes counts i → d < length nodes → slice_index counts d ≤ length nodes
count-few nodes counts i d h l =
    let e = h d l in
    let m = count_by-le-length (λ (n : Node). is_switch_of d n.kind) nodes in
    omega (arith, e, m)

-- all nodes of a code are counted
pub record AllCounted (c : Code) (nodes : List Node) (counts : List ℕ) (i : ℕ) : Type 0 where
  pub same : nodes ≡ c.nodes
  pub all : length nodes ≤ i
  pub long : length counts ≡ length nodes
  pub counted : Counted nodes counts i

-- then each node has its switches
pub switches-last : (c : Code) (nodes : List Node) (counts : List ℕ) (i : ℕ) → AllCounted c nodes counts i → counts ≡ map (switches_of c) (node_numbers c)
switches-last c nodes counts i h = numbers-are (switches_of c) (length c.nodes) counts (h.long ∙ ap (λ ns. length ns) h.same) each
  where
    each : (d : ℕ) → d < length c.nodes → slice_index counts d ≡ switches_of c d
    each d l =
        let many = ap (λ ns. length ns) h.same in
        let e = h.counted d (omega (arith, l, many)) in
        let none : number_where (is_switch_of d) (drop i nodes) ≡ 0 = ap (number_where (is_switch_of d)) (drop_all i nodes h.all) in
        let whole : number_where (is_switch_of d) nodes ≡ switches_of c d = ap (number_where (is_switch_of d)) h.same ∙ sym (counted c (is_switch_of d)) in
        omega (arith, e, none, whole)
