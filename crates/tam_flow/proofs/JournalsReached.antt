-- The state behind each legal journal is reached: what arrived has done its part, each node is sent one word, and arrays stand as their allocs asked.
use Rattle.std.proofs.Common.{◌≡◌, ℕ, ◌<◌, List, [], ◌∷◌, length, sym, subst}
use Rattle.tam_graph.specs.declared.kind.Kind.TheVariants.{Alloc}
use Rattle.tam_graph.specs.Graphs.{Graph}
use Rattle.tam_split.specs.GraphPartitions.{Partitions}
use Rattle.tam_world.specs.Worlds.{word_of}
use Rattle.tam_flow.specs.Journals.{State, Event, state_after}
use Rattle.tam_flow.specs.JournalLaws.{IsJournal}
use Rattle.tam_flow.specs.Reached.{kind_of, maker_of, cells_at, ArraysStand, ArrivalsDid, IsReached}
use Rattle.tam_flow.proofs.Arriving.{arrived-journal, began}
use Rattle.tam_flow.proofs.SoundStates.{sound-journal}
use Rattle.tam_flow.proofs.DeliveredOnce.{once-journal}
use Rattle.tam_flow.proofs.Suiting.{makers-there}
use Rattle.tam_flow.proofs.SendersStand.{make-sender}
use Rattle.tam_flow.proofs.ReachedStates.{OneForEach, reached}
use Rattle.tam_flow.proofs.WordsOnce.{one-word-each, word-carried, no-word-yet}
use Rattle.tam_flow.proofs.MadeArrays.{IsMakerState, makers-journal, made-each}
use Rattle.tam_flow.proofs.CellsOnce.{stored-each, one-stored, fetched-each, filled-by, waiting-asked}

module _ (g : Graph) (all : Partitions) (args : List ℕ) (events : List Event) (journal : IsJournal g all args events) where
  -- the state behind the journal
  abbrev s : State
  s = state_after g all args events

  -- one word is sent to a node, and one store arrives for a cell
  pub one-for-each : OneForEach (state_after g all args events)
  one-for-each = record {
    one_word = one-word-each g all args events journal;
    not_yet = no-word-yet g all args events journal;
    one_stored = one-stored g all args events journal;
    filled_by = filled-by g all args events journal;
    waiting = waiting-asked g all args events journal;
  }

  -- what arrived has done what it does
  pub arrivals-did : ArrivalsDid g (state_after g all args events)
  arrivals-did = record {
    carried = word-carried g all args events journal;
    printed = λ k v h. (arrived-journal g all args events journal).printed h.0 k v h.1 h.2;
    began = began g all args events journal;
    made = made-each g all args events journal;
    stored = stored-each g all args events journal;
    fetched = fetched-each g all args events journal;
  }

  -- the arrays stand as their allocs asked
  pub arrays-stand : ArraysStand g (state_after g all args events).world
  arrays-stand = record {
    same_length = (sound-journal g all args events journal).world.as_many;
    makers_there = makers-there g args journal.accepted all s (sound-journal g all args events journal) (once-journal g all args events journal);
    lengths = lengths;
    makers_differ = makers.differ;
  }
    where
      makers : IsMakerState (state_after g all args events)
      makers = makers-journal g all args events journal

      lengths : (a : ℕ) → a < length (state_after g all args events).world.makers
          → (n : ℕ) × (kind_of g (state_after g all args events).world (maker_of (state_after g all args events).world a).0
          (maker_of (state_after g all args events).world a).1 ≡ Alloc n)
          × (word_of (state_after g all args events).world (maker_of (state_after g all args events).world a).0 n
          ≡ length (cells_at (state_after g all args events).world a) ∷ [])
      lengths a l =
          let r = makers.makers a l in
          let m = makers.made r.0 r.1 (maker_of s.world a).0 (maker_of s.world a).1 r.2 r.3 in
          let same = makers.differ m.0 a m.1 l m.2 in
          let long : length (cells_at s.world a) ≡ r.1 = subst (λ k. length (cells_at s.world k) ≡ r.1) same m.3 in
          let by = make-sender g all args events journal (one-word-each g all args events journal) r.0 r.1 (maker_of s.world a).0 (maker_of s.world a).1 r.2 in
          (by.0, by.1.kind, subst (λ k. word_of s.world (maker_of s.world a).0 by.0 ≡ k ∷ []) (sym long) by.1.have.0)

-- THE STATE OF EACH LEGAL JOURNAL IS REACHED
pub journals-reached : (g : Graph) (all : Partitions) (args : List ℕ) (events : List Event) → IsJournal g all args events
    → IsReached g all args (state_after g all args events)
journals-reached g all args events journal =
    reached g all args events journal (one-for-each g all args events journal) (arrays-stand g all args events journal)
    (arrivals-did g all args events journal)
