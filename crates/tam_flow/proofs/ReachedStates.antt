-- The state behind each legal journal is reached, given what is shown of arrays, arrivals, and of one word and one store for each receiver.
use Rattle.std.proofs.Common.{◌≡◌, ◌≢◌, ℕ, true, false, List, [], Some, None, slice_get, Contains}
use Rattle.tam_word.specs.Lists.{has}
use Rattle.tam_msgs.specs.declared.message.Message.TheVariants.{Word as Carry, Fetch as Ask_cell, Store as Put_cell}
use Rattle.tam_msgs.specs.Messages.{outside}
use Rattle.tam_istr.specs.Cells.{Reader, Empty, Filled}
use Rattle.tam_graph.specs.Graphs.{Graph}
use Rattle.tam_split.specs.GraphPartitions.{Partitions}
use Rattle.tam_world.specs.Worlds.{word_of}
use Rattle.tam_flow.specs.Journals.{State, Event, state_after}
use Rattle.tam_flow.specs.JournalLaws.{IsJournal}
use Rattle.tam_flow.specs.Reached.{cell_at, HasArrived, ArraysStand, ArrivalsDid, OnceEach, IsReached}
use Rattle.tam_flow.proofs.SoundStates.{sound-journal}
use Rattle.tam_flow.proofs.DeliveredOnce.{once-journal, one-begin}
use Rattle.tam_flow.proofs.Suiting.{one-make, one-fetch}
use Rattle.tam_flow.proofs.ReachedParts.{activations-stand}
use Rattle.tam_flow.proofs.Sending.{messages-stand}
use Rattle.tam_flow.proofs.OutletsStand.{outlets-did}
use Rattle.tam_flow.proofs.WordsStanding.{words-stand}
use Rattle.tam_flow.proofs.SendersStand.{senders, one-sender, begin-sender, make-sender, fetch-sender, store-sender, store-sent_by, one-store}

-- one word for each receiver, and one store for each cell
pub record OneForEach (s : State) : Type 0 where
  pub one_word : (m n f x u v : ℕ) → f ≢ outside → slice_get s.sent m ≡ Some (Carry f x u) → slice_get s.sent n ≡ Some (Carry f x v) → m ≡ n
  pub not_yet : (m f x u : ℕ) → f ≢ outside → slice_get s.sent m ≡ Some (Carry f x u) → has s.arrived m ≡ false → word_of s.world f x ≡ []
  pub one_stored : s.fault ≡ None → (m n a j u v t e : ℕ) → slice_get s.sent m ≡ Some (Put_cell a j u t) → slice_get s.sent n ≡ Some (Put_cell a j v e)
      → has s.arrived m ≡ true → has s.arrived n ≡ true → m ≡ n
  pub filled_by : (a j v t : ℕ) → cell_at s.world a j ≡ Some (Filled v t) → HasArrived s (Put_cell a j v t)
  pub waiting : (a j : ℕ) (rs : List Reader) (f x : ℕ) → cell_at s.world a j ≡ Some (Empty rs) → Contains rs (f, x)
      → (t : ℕ) × HasArrived s (Ask_cell a j f x t)

module _ (g : Graph) (all : Partitions) (args : List ℕ) (events : List Event) (journal : IsJournal g all args events)
    (one : OneForEach (state_after g all args events)) where
  -- each thing is sent and done once
  pub once-each : OnceEach g all (state_after g all args events)
  once-each = record {
    senders = senders g all args events journal one.one_word;
    one_sender = one-sender g all args events journal one.one_word;
    begin_sender = λ n c f x e. let h = begin-sender g all args events journal one.one_word n c f x e in (h.there, h.kind, h.ran);
    make_sender = λ n v f x e. let h = make-sender g all args events journal one.one_word n v f x e in (h.0, h.1.there, h.1.kind, h.1.ran, h.1.have.0);
    fetch_sender = λ n u v f x t e. let h = fetch-sender g all args events journal one.one_word n u v f x t e in
        (h.0, h.1, h.2.there, h.2.kind, h.2.ran, h.2.have.0, h.2.have.1.0, h.3);
    store_sender = λ n t u v e sent. let h = store-sender g all args events journal one.one_word n t u v e sent in
        (h.0, h.1, h.2, h.3, h.4, h.5, h.6.there, h.6.kind, h.6.ran, h.6.have.0, h.6.have.1.0, h.6.have.1.1.0, h.7);
    store_sent_by = store-sent_by g all args events journal one.one_word;
    one_begin = one-begin g args journal.accepted all journal.valid (state_after g all args events) (sound-journal g all args events journal)
        (once-journal g all args events journal);
    one_make = one-make g args journal.accepted all (state_after g all args events) (sound-journal g all args events journal)
        (once-journal g all args events journal) journal.valid;
    one_fetch = one-fetch g args journal.accepted all (state_after g all args events) (sound-journal g all args events journal)
        (once-journal g all args events journal) journal.valid;
    one_store = one-store g all args events journal one.one_word;
    one_word = one.one_word;
    not_yet = one.not_yet;
    one_stored = one.one_stored;
    filled_by = one.filled_by;
    waiting = one.waiting;
  }

  -- so the state is reached
  pub reached : ArraysStand g (state_after g all args events).world → ArrivalsDid g (state_after g all args events)
      → IsReached g all args (state_after g all args events)
  reached arrays arrivals = record {
    few_activations = journal.few_activations;
    few_arrays = journal.few_arrays;
    activations = activations-stand g args all (state_after g all args events) (sound-journal g all args events journal)
        (once-journal g all args events journal);
    arrays = arrays;
    words = words-stand g all args events journal one.one_word;
    outlets = outlets-did g all args events journal one.one_word;
    arrivals = arrivals;
    once = once-each;
    messages = messages-stand g all args events journal;
  }
