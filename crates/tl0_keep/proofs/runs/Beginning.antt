-- The delivery of a wish for an activation, and the opening of a run.
use Rattle.std.proofs.Common.{◌≡◌, ℕ, zero, suc, ◌+◌, ◌<◌, ◌^◌, ◌%◌, Bool, true, false, ◌==◌, List, [], ◌∷◌, ◌++◌, Option, Some, None, slice_get, length}
use Rattle.std.proofs.Common.{refl, sym, ap, ap₂, subst, ◌∙◌, arith}
use Rattle.tam_word.specs.Lists.{without_place, put_at}
use Rattle.tam_word.proofs.Members.{in-below}
use Rattle.tam_msgs.specs.declared.message.Message.TheVariants.{Word as Carry, Frame as Begin}
use Rattle.tam_msgs.specs.declared.item.Item.{Item}
use Rattle.tam_msgs.specs.declared.limits.Limits.{Limits}
use Rattle.tam_msgs.specs.Messages.{outside}
use Rattle.tam_graph.specs.Graphs.{Graph, code_of}
use Rattle.tam_split.specs.GraphPartitions.{Partitions}
use Rattle.tam_world.specs.Worlds.{activation_at, its_code, delivered as delivered_in}
use Rattle.tam_flow.specs.Journals.{State, on_their_way, after_delivery}
use Rattle.tam_flow.specs.Reached.{IsThere, IsReached}
use Rattle.frame_tables.specs.FrameTables.{FrameTable, frame_at, next_number, next_number_of, with_new, with_slot, new_frame, spent}
use Rattle.tl0_code.specs.Machines.{Machine, Plain, Progress, Fine, Broken, spend, spend_of, with_message, then_do}
use Rattle.tl0_code.specs.ThreadRuns.{delivered, with_frame, begin_for, as_outcome}
use Rattle.tl0_code.specs.ThreadCode.{code_text, plain, counts_of, widest_slots, widest_threads}
use Rattle.tl0_keep.specs.Compiled.{compiled_with, inlet_of}
use Rattle.tl0_keep.specs.ThreadNames.{inlet_at}
use Rattle.tl0_keep.proofs.code.ThreadKinds.{ThreadKind, Entry, Begun, Word_of, IsThread, sources_of, parts_for, inlet_thread, takes_messages}
use Rattle.tl0_keep.proofs.runs.Keeps.{Owed, ticket, parts_in, Keeps, MessagesKeep, Rests, Fits}
use Rattle.tl0_keep.proofs.code.CodeFacts.{CodeFacts}
use Rattle.tl0_keep.proofs.runs.Spending.{spend-due, spends, spent-state, rests-spent}
use Rattle.tl0_keep.proofs.runs.Told.{Stays, message-stays, arrays-stay}
use Rattle.tl0_keep.proofs.runs.Arrives.{found, messages-after, message-fits}
use Rattle.tl0_keep.proofs.runs.Sends.{stays-begun, FitsAfter, delivery-fits, answered-fits}
use Rattle.tl0_keep.proofs.runs.Delivering.{Delivers, not-outside}
use Rattle.tl0_keep.proofs.runs.NewFrames.{frame-begins, frame-rests}

-- each thread waits for something
abbrev pub SomeSource : Graph → Partitions → Type 0
SomeSource g all = (c : ℕ) → c < length g.codes → (n : ThreadKind) → IsThread (code_of g c) (parts_for all c) n
    → 0 < length (sources_of (code_of g c) (parts_for all c) n)

-- a small number is its remainder
small-rest : (a n : ℕ) → a ≡ n → n < 2048 → a % 2 ^ 32 ≡ n
small-rest a n e l = omega arith

-- an entry count is spent by the table alone
spend-beside : (m k : Machine) (t : FrameTable) (f n : ℕ) → spend (record m { table = t }) f n ≡ Fine (record m { table = spent t f n })
    → spend (record k { table = t }) f n ≡ Fine (record k { table = spent t f n })
spend-beside m k t f n e = go (slice_get (frame_at t f).counts n) e
  where
    go : (o : Option ℕ) → spend_of (record m { table = t }) f n o ≡ Fine (record m { table = spent t f n })
        → spend_of (record k { table = t }) f n o ≡ Fine (record k { table = spent t f n })
    go None e = absurd cc
    go (Some zero) e = absurd cc
    go (Some (suc c)) e = refl

-- the table with a new frame, where no number was given back
abbrev pub new_table : Graph → Partitions → FrameTable → ℕ → ℕ → ℕ → FrameTable
new_table g all t c s0 s1 = with_slot (with_slot (record t {
  frames = t.frames
      ++ Some (new_frame (widest_slots (plain (compiled_with g all))) (widest_threads (plain (compiled_with g all)))
      (counts_of (code_text (plain (compiled_with g all)) c))) ∷ [];
})
    (length t.frames) 0 s0) (length t.frames) 1 s1

-- so a frame is taken
frame-taken : (g : Graph) (all : Partitions) (m : Machine) (c s0 s1 : ℕ) → m.table.free ≡ [] → with_frame (plain (compiled_with g all)) m c s0 s1
    ≡ record m { table = new_table g all m.table c s0 s1; codes = put_at 0 (length m.table.frames) c m.codes; begun = m.begun + 1 }
frame-taken g all m c s0 s1 e = ap (λ (free : List ℕ). record m {
  table = with_slot (with_slot (with_new m.table free (new_frame (widest_slots (plain (compiled_with g all))) (widest_threads (plain (compiled_with g all)))
      (counts_of (code_text (plain (compiled_with g all)) c)))) (next_number_of free (length m.table.frames)) 0 s0)
      (next_number_of free (length m.table.frames)) 1 s1;
  codes = put_at 0 (next_number_of free (length m.table.frames)) c m.codes;
  begun = m.begun + 1;
}) e

module _ (g : Graph) (all : Partitions) (facts : CodeFacts g all) (some : SomeSource g all) (args : List ℕ) (m : Machine) (s : State)
    (others : List (ℕ × ThreadKind))
    (rests : Rests g all m s others) (reached : IsReached g all args s) (limits : Limits) (k c f i : ℕ)
    (at : slice_get (on_their_way s) k ≡ Some (Begin c f i)) (there_c : c < length g.codes)
    (rest : List Item) (made : ℕ) where
  -- the machine once the message is taken out
  abbrev taken : Machine
  taken = record m { pending = without_place k m.pending; order = rest; events = made }

  -- the message's number
  abbrev n : ℕ
  n = (found g all facts args m s others rests.keeps k (Begin c f i) at).number

  -- the state of the journal behind it
  abbrev pub v : State
  v = after_delivery s n (delivered_in s.world (Begin c f i))

  -- it fits
  fit : Fits g s.world (Begin c f i)
  fit = message-fits g all facts args m s others rests.keeps k (Begin c f i) at

  -- what it sends too
  fits : FitsAfter g (delivered_in s.world (Begin c f i))
  fits = delivery-fits g s.world rests.keeps.messages.readers (Begin c f i) fit

  -- the activations go on
  stays : Stays s.world v.world
  stays = stays-begun s.world c f i

  -- its inlet
  abbrev inlet : ℕ
  inlet = inlet_at g v.world f i

  -- no activation is the outside
  inside : (f == outside) ≡ false
  inside = not-outside f (length s.world.activations) fit.0.0 reached.few_activations

  -- so it is that of its node
  inlet-is : inlet ≡ inlet_of g (its_code g v.world f) i
  inlet-is = ap (λ (z : Bool). elim z [ true ↦ i | false ↦ inlet_of g (its_code g v.world f) i ]) inside

  -- and small
  inlet-small : inlet_of g (its_code g v.world f) i < 1024
  inlet-small = subst (λ d. inlet_of g (code_of g d) i < 1024) (sym (stays.code f fit.0.0))
      ((facts.texts (activation_at s.world f).code (rests.keeps.frames.known f fit.0.0)).inlet_small i
      (in-below i (length (its_code g s.world f).nodes) (Rattle.tam_split.proofs.Firers.kind-there (its_code g s.world f) i takes_messages refl fit.0.1))
      fit.0.1)

  -- the machine with the frame, and with what is sent
  abbrev with_it : Machine
  with_it = record taken {
    table = new_table g all m.table c f ((inlet + 1) % 2 ^ 32);
    codes = put_at 0 (length m.table.frames) c m.codes;
    begun = m.begun + 1;
    pending = without_place k m.pending ++ Carry f inlet (length m.table.frames) ∷ [];
  }

  -- the messages
  messages : MessagesKeep g with_it v
  messages = messages-after g all facts args m s others rests.keeps k (Begin c f i) at v with_it (Carry f i (length s.world.activations) ∷ []) stays refl refl
      (λ q h. answered-fits g v.world q (fits.0 q h)) fits.1
      (ap (λ z. without_place k m.pending ++ Carry f inlet z ∷ []) rests.keeps.frames.frames)
      (arrays-stay g s.world v.world stays s.world.arrays (λ a j rs r e h. (rests.keeps.messages.readers a j rs r e h).0) ∙ rests.keeps.messages.arrays)
      rests.keeps.messages.printed

  -- there is a frame already
  some-frame : 0 < length m.table.frames
  some-frame = let a = rests.keeps.frames.frames in let b : f < length s.world.activations = fit.0.0 in omega arith

  -- it has begun
  begins : Keeps g all with_it v others (ticket (length m.table.frames) Entry Begun ∷ [])
  begins = frame-begins g all facts some m s others rests.keeps c f i ((inlet + 1) % 2 ^ 32) there_c v with_it refl refl rests.keeps.no_fault refl refl refl
      (λ l. small-rest (inlet + 1) (inlet_of g (its_code g v.world f) i + 1) (ap (λ z. z + 1) inlet-is) (let z = inlet-small in omega arith))
      (λ e. let l = some-frame in absurd (omega arith))
      (λ j p l. let q : (activation_at s.world j).caller < j = reached.activations.callers j p l in let z : j < length s.world.activations = l in
      omega arith) messages

  -- its ticket is no word's
  word : (x w : ℕ) → ticket (length m.table.frames) Entry Begun
      ≡ ticket (length m.table.frames) (inlet_thread (its_code g v.world (length m.table.frames)) (parts_in g all v others (length m.table.frames)) x)
      (Word_of x)
      → Rattle.tam_flow.specs.Reached.Has v (length m.table.frames) x w
      → Rattle.tl0_code.specs.Machines.slot with_it (length m.table.frames)
      (Rattle.tl0_keep.specs.Compiled.slot_of (its_code g v.world (length m.table.frames)) x) ≡ w
  word x w e h = absurd (apart (ap (λ (z : Owed). z.1.source) e))
    where
      apart : Begun ≡ Word_of x → ⊥
      apart z = cc

  -- the run goes on
  pub begin-goes : Delivers g all v others made (delivered Plain (plain (compiled_with g all)) limits taken (Begin c f (inlet_at g s.world f i)))
  begin-goes = record {
    after = spent-state g all facts with_it v others [] (length m.table.frames) Entry Begun begins word;
    goes = ap (λ (z : ℕ). as_outcome (begin_for (plain (compiled_with g all)) taken c f z) taken) same
        ∙ ap (λ (p : Progress). as_outcome p taken) outcome;
    rests = record {
      keeps = spend-due g all facts with_it v others [] (length m.table.frames) Entry Begun begins word;
      rested = rests-spent g all facts with_it v others [] (length m.table.frames) Entry Begun begins word
          (frame-rests g all facts some m s others rests.keeps c f i ((inlet + 1) % 2 ^ 32) there_c v with_it refl refl rests.keeps.no_fault refl refl refl
          (λ l. small-rest (inlet + 1) (inlet_of g (its_code g v.world f) i + 1) (ap (λ z. z + 1) inlet-is) (let z = inlet-small in omega arith))
          (λ e. let l = some-frame in absurd (omega arith))
          (λ j p l. let q : (activation_at s.world j).caller < j = reached.activations.callers j p l in let z : j < length s.world.activations = l in
          omega arith) messages
          rests.rested);
    };
    same_events = refl;
  }
    where
      same : inlet_at g s.world f i ≡ inlet
      same = told (message-stays g s.world v.world stays (Begin c f i) fit)
        where
          told : Begin c f (inlet_at g v.world f i) ≡ Begin c f (inlet_at g s.world f i) → inlet_at g s.world f i ≡ inlet_at g v.world f i
          told e = cc

      number-is : next_number m.table ≡ length m.table.frames
      number-is = ap (λ (free : List ℕ). next_number_of free (length m.table.frames)) rests.keeps.frames.free

      outcome : begin_for (plain (compiled_with g all)) taken c f inlet
          ≡ Fine (spent-state g all facts with_it v others [] (length m.table.frames) Entry Begun begins word)
      outcome = ap₂ (λ (q : Machine) (z : ℕ). then_do (spend q z 0) (λ n. Fine (with_message n (Carry f inlet z))))
          (frame-taken g all taken c f ((inlet + 1) % 2 ^ 32) rests.keeps.frames.free) number-is
          ∙ ap (λ (p : Progress). then_do p (λ n. Fine (with_message n (Carry f inlet (length m.table.frames)))))
          (spend-beside with_it
          (record taken { codes = put_at 0 (length m.table.frames) c m.codes; begun = m.begun + 1 })
          (new_table g all m.table c f ((inlet + 1) % 2 ^ 32)) (length m.table.frames) 0
          (spends g all facts with_it v others [] (length m.table.frames) Entry Begun begins word))
