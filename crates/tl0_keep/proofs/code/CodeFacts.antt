-- What the run needs to know of the thread code of an accepted graph.
use Rattle.std.proofs.Common.{◌≡◌, ℕ, ◌+◌, ◌<◌, ◌≤◌, true, List, [], ◌∷◌, Some, slice_get, length}
use Rattle.std.proofs.Common.{◌⊎◌}
use Rattle.tam_word.proofs.Members.{In, Distinct}
use Rattle.tam_graph.specs.declared.kind.Kind.TheVariants.{Call as Invoke, Cond, Switch as Choose, Enter}
use Rattle.tam_graph.specs.Graphs.{Code, Graph, code_of, kind_at, block_at, has_value, is_inlet, node_where, node_in}
use Rattle.tam_graph.specs.Graphs.{is_enter, is_switch, is_param, is_ret, owner_of, results_of, params_of}
use Rattle.tam_split.specs.Blocks.{block_graph}
use Rattle.tam_split.specs.Partitions.{Parts}
use Rattle.tam_split.specs.GraphPartitions.{Partitions}
use Rattle.tl0_code.specs.ThreadCode.{CodeText, plain, code_text, thread_at, counts_of, widest_slots, widest_threads}
use Rattle.tl0_keep.specs.Compiled.{slot_of, inlet_of, parts_at, entry_classes, block_entry, switch_into, yes_of, no_of}
use Rattle.tl0_keep.specs.Compiled.{compiled_with}
use Rattle.tl0_keep.proofs.code.ThreadKinds.{ThreadKind, Class, Then_of, Else_of, Word_of, Opened, number_of_thread, IsThread, sources_of, parts_for}
use Rattle.tl0_keep.proofs.code.ThreadKinds.{Ticket, fork_tickets, inlet_thread, takes_messages, opener_of, poster_of}

-- thread 0 or a connector
abbrev pub IsOther : ThreadKind → Type 0
IsOther (Class b k) = ⊥
IsOther _ = Unit {0}

-- the ticket is of an entry class of a block that n opens
abbrev pub ForOpened : Code → ThreadKind → Ticket → Type 0
ForOpened c n k = (b : ℕ) × ((e : ℕ) × ((k ≡ record { thread = Class b e; source = Opened }) × In n (opener_of c b)))

-- or of an `in` to which n gives its word
abbrev pub ForPosted : Code → List Parts → ThreadKind → Ticket → Type 0
ForPosted c ps n k = (x : ℕ) × ((e : ℕ) × ((k ≡ record { thread = inlet_thread c ps x; source = Word_of x }) × (kind_at c x ≡ Enter e)
    × In n (poster_of c x e) × (x < length c.nodes)))

-- of one code and its partitions; text is its thread code without skips
pub record TextFacts (g : Graph) (c : Code) (ps : List Parts) (text : CodeText) : Type 0 where
  -- threads
  pub number_below : (n : ThreadKind) → IsThread c ps n → number_of_thread c ps n < length text.threads
  pub number_one : (a b : ThreadKind) → IsThread c ps a → IsThread c ps b → number_of_thread c ps a ≡ number_of_thread c ps b → a ≡ b
  pub number_onto : (t : ℕ) → t < length text.threads → (n : ThreadKind) × IsThread c ps n × (number_of_thread c ps n ≡ t)
  pub count : (n : ThreadKind) → IsThread c ps n → slice_get (counts_of text) (number_of_thread c ps n) ≡ Some (length (sources_of c ps n))
  pub sources_once : (n : ThreadKind) → IsThread c ps n → Distinct (sources_of c ps n)
  -- instructions of thread 0 and of connectors
  pub opening_instrs : (thread_at text 0).instrs ≡ block_entry c ps 0
  pub then_cond : (x p y n : ℕ) → x < length c.nodes → kind_at c x ≡ Cond p y n → (thread_at text (number_of_thread c ps (Then_of x))).instrs ≡ block_entry c
      ps y
  pub else_cond : (x p y n : ℕ) → x < length c.nodes → kind_at c x ≡ Cond p y n → (thread_at text (number_of_thread c ps (Else_of x))).instrs ≡ block_entry c
      ps n
  pub then_switch : (x d k a : ℕ) → x < length c.nodes → kind_at c x ≡ Choose d k a
      → (thread_at text (number_of_thread c ps (Then_of x))).instrs ≡ switch_into c ps a k (yes_of (kind_at c d))
  pub else_switch : (x d k a : ℕ) → x < length c.nodes → kind_at c x ≡ Choose d k a
      → (thread_at text (number_of_thread c ps (Else_of x))).instrs ≡ switch_into c ps a k (no_of (kind_at c d))
  -- what thread 0 and the connectors spend: tickets of entry classes of a block that they open, and of an `in` to which they give its word
  pub forks_once : (n : ThreadKind) → IsThread c ps n → Distinct (fork_tickets c ps n)
  pub fork_there : (n : ThreadKind) (k : Ticket) → IsThread c ps n → In k (fork_tickets c ps n) → IsThread c ps k.thread
      × In k.source (sources_of c ps k.thread)
  pub fork_for : (n : ThreadKind) (k : Ticket) → IsThread c ps n → IsOther n → In k (fork_tickets c ps n) → ForOpened c n k ⊎ ForPosted c ps n k
  pub opened_fork : (n : ThreadKind) (b k : ℕ) → IsThread c ps n → IsThread c ps (Class b k) → In Opened (sources_of c ps (Class b k)) → In n (opener_of c b)
      → In (record { thread = Class b k; source = Opened }) (fork_tickets c ps n)
  pub posted_fork : (n : ThreadKind) (x k : ℕ) → IsThread c ps n → x < length c.nodes → kind_at c x ≡ Enter k → In n (poster_of c x k)
      → In (record { thread = inlet_thread c ps x; source = Word_of x }) (fork_tickets c ps n)
  -- entry classes are those with the source Opened
  pub entry_in : (b k : ℕ) → In k (entry_classes (block_graph c b) (parts_at ps b)) → (k < length (parts_at ps b)) × In Opened (sources_of c ps (Class b k))
  pub in_entry : (b k : ℕ) → k < length (parts_at ps b) → In Opened (sources_of c ps (Class b k)) → In k (entry_classes (block_graph c b) (parts_at ps b))
  -- slots
  pub slot_high : (x : ℕ) → x < length c.nodes → has_value (kind_at c x) ≡ true → 2 ≤ slot_of c x
  pub slot_below : (x : ℕ) → x < length c.nodes → has_value (kind_at c x) ≡ true → slot_of c x < text.slots
  pub slot_one : (x y : ℕ) → x < length c.nodes → y < length c.nodes → has_value (kind_at c x) ≡ true → has_value (kind_at c y) ≡ true
      → slot_of c x ≡ slot_of c y → x ≡ y
  pub two_slots : 2 ≤ text.slots
  pub results : text.results ≡ results_of c
  -- inlets
  pub inlet_at : (x : ℕ) → x < length c.nodes → takes_messages (kind_at c x) ≡ true
      → slice_get text.inlets (inlet_of g c x) ≡ Some (record { slot = slot_of c x; thread = number_of_thread c ps (inlet_thread c ps x) })
  pub inlet_small : (x : ℕ) → x < length c.nodes → takes_messages (kind_at c x) ≡ true → inlet_of g c x < 1024
  pub inlet_source : (x : ℕ) → x < length c.nodes → is_inlet (kind_at c x) ≡ true
      → IsThread c ps (inlet_thread c ps x) × In (Word_of x) (sources_of c ps (inlet_thread c ps x))
  pub source_inlet : (b k x : ℕ) → IsThread c ps (Class b k) → In (Word_of x) (sources_of c ps (Class b k))
      → x < length c.nodes × (is_inlet (kind_at c x) ≡ true) × (inlet_thread c ps x ≡ Class b k)
  pub param_at : (k : ℕ) → k < params_of c → (x : ℕ) × (node_where c (is_param k) ≡ x ∷ []) × (inlet_of g c x ≡ k)
  pub ret_at : (f d k : ℕ) → kind_at c f ≡ Invoke d → k < results_of (code_of g d)
      → (x : ℕ) × (node_where c (is_ret f k) ≡ x ∷ []) × (inlet_of g c x ≡ inlet_of g c f + 1 + k)
  -- conds, switches and their branches
  pub branches : (d p y n : ℕ) → kind_at c d ≡ Cond p y n → (owner_of c y ≡ d ∷ []) × (owner_of c n ≡ d ∷ []) × (y ≡ n → ⊥) × (0 < y) × (0 < n)
  pub owner_cond : (b d : ℕ) → owner_of c b ≡ d ∷ [] → (p : ℕ) × ((y : ℕ) × ((n : ℕ) × ((kind_at c d ≡ Cond p y n) × ((b ≡ y) ⊎ (b ≡ n)))))
  pub owned : (b : ℕ) → b < length c.owners → 0 < b → (d : ℕ) × (owner_of c b ≡ d ∷ [])
  pub switch_cond : (x d k a : ℕ) → kind_at c x ≡ Choose d k a → (p : ℕ) × ((y : ℕ) × ((n : ℕ) × (kind_at c d ≡ Cond p y n)))
  pub switch_at : (x d k a : ℕ) → kind_at c x ≡ Choose d k a → node_where c (is_switch d k) ≡ x ∷ []
  pub enter_owner : (x k : ℕ) → x < length c.nodes → kind_at c x ≡ Enter k
      → (d : ℕ) × ((y : ℕ) × ((a : ℕ) × ((owner_of c (block_at c x) ≡ d ∷ []) × (kind_at c y ≡ Choose d k a) × (0 < block_at c x))))
  pub enter_at : (x k : ℕ) → x < length c.nodes → kind_at c x ≡ Enter k → node_in c (block_at c x) (is_enter k) ≡ x ∷ []
  pub enters : (x d k a p y n : ℕ) → kind_at c x ≡ Choose d k a → kind_at c d ≡ Cond p y n
      → ((e : ℕ) × (node_in c y (is_enter k) ≡ e ∷ [])) × ((e : ℕ) × (node_in c n (is_enter k) ≡ e ∷ []))

-- of all codes of a graph
pub record CodeFacts (g : Graph) (all : Partitions) : Type 0 where
  pub texts : (n : ℕ) → n < length g.codes → TextFacts g (code_of g n) (parts_for all n) (code_text (plain (compiled_with g all)) n)
  pub slots : (n : ℕ) → n < length g.codes → (code_text (plain (compiled_with g all)) n).slots ≤ widest_slots (plain (compiled_with g all))
  pub threads : (n : ℕ) → n < length g.codes → length (code_text (plain (compiled_with g all)) n).threads ≤ widest_threads (plain (compiled_with g all))
