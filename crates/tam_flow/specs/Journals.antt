-- Journals: runs of classes and deliveries of messages, with every choice of the next event.
use Rattle.std.specs.Prelude.{ℕ, ◌≡◌, Bool, true, false, ◌&&◌, not, ◌==◌, nat_lt, List, [], ◌∷◌, ◌++◌, flat_map, Option, Some, None, slice_get, length, zip}
use Rattle.std.specs.Prelude.{IsTrue, is_none}
use Rattle.tam_word.specs.Lists.{below, any_of, all_of, has}
use Rattle.tam_msgs.specs.declared.message.Message.{Message}
use Rattle.tam_split.specs.declared.vertex.Vertex.{Vertex}
use Rattle.tam_graph.specs.Graphs.{Graph}
use Rattle.tam_split.specs.Blocks.{BlockGraph, block_graph, vertex_at}
use Rattle.tam_split.specs.Partitions.{Parts, class_at, directly_before}
use Rattle.tam_split.specs.GraphPartitions.{Partitions, parts_of, firing_order}
use Rattle.tam_world.specs.Worlds.{World, Effect, Delivery, Went, Printed, Faulted, Fault, activation_at, its_code, has_word, has_entered, fired, delivered}
use Rattle.tam_world.specs.Worlds.{opening, argument_message}

-- a class of a block of an activation runs, or a message is delivered (by its number in the order of sending)
pub data Event : Type 0 where
  Run : (act block class : ℕ) → Event
  Deliver : (message : ℕ) → Event

-- what a journal leaves
pub record State : Type 0 where
  pub world : World
  pub sent : List Message  -- every message that was ever sent, in order
  pub arrived : List ℕ  -- the numbers of those that were delivered
  pub ran : List (ℕ × ℕ × ℕ)  -- activation, block and class of each run
  pub printed : List (ℕ × ℕ)  -- the words that went outside, with their places, in order
  pub fault : Option Fault  -- the delivery that was a second store or out of range, if one was

-- before the first event: the arguments are sent
abbrev pub initial : Graph → List ℕ → State
initial g args = record {
  world = opening g;
  sent = flat_map (argument_message g) (zip (below (length args)) args);
  arrived = [];
  ran = [];
  printed = [];
  fault = None;
}

-- the class fires: its vertices but the inlets, in order
abbrev pub fire_each : Graph → BlockGraph → ℕ → Effect → List ℕ → Effect
fire_each g b i e [] = e
fire_each g b i e (x ∷ xs) = fire_each g b i (after_one (vertex_at b x) (fired g e.world i (vertex_at b x).node)) xs
  where
    after_one : Vertex → Effect → Effect
    after_one v f = elim v.inlet [ true ↦ e | false ↦ record { world = f.world; sends = e.sends ++ f.sends } ]

-- block b of the code of activation i
abbrev pub block_of_act : Graph → State → ℕ → ℕ → BlockGraph
block_of_act g s i b = block_graph (its_code g s.world i) b

-- and its partition
abbrev pub parts_of_act : Graph → Partitions → State → ℕ → ℕ → Parts
parts_of_act g all s i b = parts_of all (activation_at s.world i).code b

-- what the run of a class changes and sends
abbrev pub class_fired : Graph → Partitions → State → ℕ → ℕ → ℕ → Effect
class_fired g all s i b c =
    fire_each g (block_of_act g s i b) i (record { world = s.world; sends = [] })
    (firing_order (block_of_act g s i b).edges (class_at (parts_of_act g all s i b) c))

-- a message, as a list of at most one
abbrev pub or_message : Option Message → List Message
or_message None = []
or_message (Some m) = m ∷ []

-- the state after message m has arrived
abbrev pub after_delivery : State → ℕ → Delivery → State
after_delivery s m (Went e) = record s { world = e.world; sent = s.sent ++ e.sends; arrived = m ∷ s.arrived }
after_delivery s m (Printed k v) = record s { printed = s.printed ++ (k, v) ∷ []; arrived = m ∷ s.arrived }
after_delivery s m (Faulted f) = record s { fault = Some f; arrived = m ∷ s.arrived }

-- the message, where there is one, is delivered
abbrev pub deliver_all : State → ℕ → List Message → State
deliver_all s m [] = s
deliver_all s m (x ∷ xs) = after_delivery s m (delivered s.world x)

-- the state after an event
abbrev pub after_event : Graph → Partitions → State → Event → State
after_event g all s (Run i b c) =
    let e = class_fired g all s i b c in
    record s { world = e.world; sent = s.sent ++ e.sends; ran = (i, b, c) ∷ s.ran }
after_event g all s (Deliver m) = deliver_all s m (or_message (slice_get s.sent m))

-- ---- which event may come

-- class c of block b of activation i has run
abbrev pub has_run : State → ℕ → ℕ → ℕ → Bool
has_run s i b c = any_of (λ r. (r.0 == i) && ((r.1 == b) && (r.2 == c))) s.ran

-- each inlet of the class has a word
abbrev pub inlets_have_words : BlockGraph → State → ℕ → List ℕ → Bool
inlets_have_words b s i class = all_of (λ x. elim (vertex_at b x).inlet [ true ↦ has_word s.world i (vertex_at b x).node | false ↦ true ]) class

-- each class directly before has run
abbrev pub those_before_ran : BlockGraph → Parts → State → ℕ → ℕ → ℕ → Bool
those_before_ran b parts s i block c =
    all_of (λ d. elim (directly_before b.edges parts d c) [ true ↦ has_run s i block d | false ↦ true ]) (below (length parts))

-- a class may run in an activation that has begun, once: after its block was entered, its inlets have words and the classes before it have run
abbrev pub may_run : Graph → Partitions → State → ℕ → ℕ → ℕ → Bool
may_run g all s i b c =
    nat_lt i (length s.world.activations) && (nat_lt c (length (parts_of_act g all s i b)) && (not (has_run s i b c) && (has_entered s.world i b
    && (inlets_have_words (block_of_act g s i b) s i (class_at (parts_of_act g all s i b) c)
    && those_before_ran (block_of_act g s i b) (parts_of_act g all s i b) s i b c))))

-- the messages that were sent and haven't arrived, in the order in which they were sent
abbrev pub on_their_way : State → List Message
on_their_way s = flat_map (λ m. elim (has s.arrived m) [ true ↦ [] | false ↦ or_message (slice_get s.sent m) ]) (below (length s.sent))

-- a message that was sent and hasn't arrived
abbrev pub may_arrive : State → ℕ → Bool
may_arrive s m = nat_lt m (length s.sent) && not (has s.arrived m)

-- the event may come: nothing follows a fault
abbrev pub may_follow : Graph → Partitions → State → Event → Bool
may_follow g all s (Run i b c) = is_none s.fault && may_run g all s i b c
may_follow g all s (Deliver m) = is_none s.fault && may_arrive s m

-- each event may come in the state that the events before it leave
abbrev pub is_legal_from : Graph → Partitions → State → List Event → Bool
is_legal_from g all s [] = true
is_legal_from g all s (e ∷ es) = elim (may_follow g all s e) [ true ↦ is_legal_from g all (after_event g all s e) es | false ↦ false ]

-- the same from the beginning
abbrev pub is_legal : Graph → Partitions → List ℕ → List Event → Bool
is_legal g all args events = is_legal_from g all (initial g args) events

-- the state after further events
abbrev pub state_from : Graph → Partitions → State → List Event → State
state_from g all s [] = s
state_from g all s (e ∷ es) = state_from g all (after_event g all s e) es

-- the state after a journal
abbrev pub state_after : Graph → Partitions → List ℕ → List Event → State
state_after g all args events = state_from g all (initial g args) events

-- no delivery was a second store or out of range, every message has arrived, and no class may run
pub record IsQuiet (g : Graph) (all : Partitions) (args : List ℕ) (events : List Event) : Type 0 where
  pub legal : IsTrue (is_legal g all args events)
  pub whole : (state_after g all args events).fault ≡ None
  pub ended : (e : Event) → may_follow g all (state_after g all args events) e ≡ false
