-- What comes of the delivery of any message but a wish for an activation, in the machine and in the journal.
use Rattle.std.proofs.Common.{◌≡◌, ℕ, ◌+◌, ◌<◌, Bool, true, false, ◌==◌, nat_lt, List, [], ◌∷◌, ◌++◌, map, Option, Some, None, slice_get, length}
use Rattle.std.proofs.Common.{refl, sym, ap, subst, ◌∙◌, inl, inr, ◌⊎◌, arith, true≢false}
use Rattle.std.proofs.lemmas.List.{length-map}
use Rattle.tam_word.specs.Lists.{without_place, any_of}
use Rattle.tam_word.proofs.Tests.{eq-number, test-below, below-test}
use Rattle.tam_msgs.specs.declared.message.Message.{Message}
use Rattle.tam_msgs.specs.declared.message.Message.TheVariants.{Word as Carry, Cells as Make, Fetch as Ask_cell, Store as Put_cell}
use Rattle.tam_msgs.specs.declared.item.Item.{Item}
use Rattle.tam_msgs.specs.declared.limits.Limits.{Limits}
use Rattle.tam_msgs.specs.Messages.{outside, answers}
use Rattle.tam_msgs.specs.Runs.{Outcome, Next, Ended, End, Double_write, Out_of_range, Cells_full, Wild, Wild_place}
use Rattle.tam_istr.specs.Cells.{Arrays, Cell, Reader, Access, Now, Deferred, Stored, Twice, NotBelow, NoArray, cells_used, with_array, fetched_from}
use Rattle.tam_istr.specs.Cells.{stored_into, in_array, store_of, Empty, Filled}
use Rattle.tam_graph.specs.Graphs.{Graph, code_of, results_of}
use Rattle.tam_split.specs.GraphPartitions.{Partitions}
use Rattle.tam_world.specs.Worlds.{World, Effect, Went, Printed, Faulted, Fault, Second_store, Outside_cells, activation_at, word_of, got, changes}
use Rattle.tam_world.specs.Worlds.{sends_only, accessed as accessed_in, delivered as delivered_in}
use Rattle.tam_flow.specs.Journals.{State, on_their_way, after_delivery}
use Rattle.tam_flow.specs.Reached.{IsReached}
use Rattle.frame_tables.specs.FrameTables.{FrameTable}
use Rattle.tl0_code.specs.Machines.{Machine, Plain, with_message}
use Rattle.tl0_code.specs.ThreadRuns.{delivered, accessed}
use Rattle.tl0_code.specs.ThreadCode.{code_text, plain}
use Rattle.tl0_keep.specs.Compiled.{compiled_with}
use Rattle.tl0_keep.specs.ThreadNames.{inlet_at, thread_message, thread_reader, thread_arrays}
use Rattle.tl0_keep.proofs.code.ThreadKinds.{ThreadKind}
use Rattle.tl0_keep.proofs.runs.Keeps.{Keeps, MessagesKeep, Rests, IsForMessages, Fits}
use Rattle.tl0_keep.proofs.code.CodeFacts.{CodeFacts}
use Rattle.tl0_keep.proofs.runs.Told.{Stays, message-stays, thread_access, fetch-told, store-told, array-told, used-told, answers-told}
use Rattle.tl0_keep.proofs.runs.Arrives.{found, was-sent, messages-after, message-fits, keeps-still, none-behind}
use Rattle.tl0_keep.proofs.runs.Sends.{stays-got, FitsAfter, delivery-fits, answered-fits}
use Rattle.tl0_keep.proofs.runs.Delivering.{Delivers, word-goes, not-outside}

-- the end that a fault is
abbrev pub end_of : Fault → End
end_of (Second_store a b) = Double_write a b
end_of (Outside_cells s i n) = Out_of_range s i n

-- the run goes on, or the delivery was a fault, or cells are refused
abbrev pub Comes : Graph → Partitions → State → List (ℕ × ThreadKind) → Limits → Machine → ℕ → Message → Outcome Machine → Type 0
Comes g all s others limits m n x o =
    Delivers g all (after_delivery s n (delivered_in s.world x)) others m.events o
    ⊎ (((q : Fault) × (delivered_in s.world x ≡ Faulted q) × (o ≡ Ended (end_of q) m))
    ⊎ ((l : ℕ) × ((f : ℕ) × ((i : ℕ) × ((x ≡ Make l f i) × (limits.cells < cells_used m.arrays + l) × (o ≡ Ended (Cells_full (cells_used m.arrays) l) m))))))

-- a store doesn't give a word
store-not : (rows : Arrays) (a j v t u : ℕ) → stored_into rows a j v t ≡ Now u → ⊥
store-not rows a j v t u h = array (slice_get rows a) h
  where
    cell : (cells : List Cell) (o : Option Cell) → slice_get cells j ≡ o → in_array j (store_of rows a j v t) (Some cells) ≡ Now u → ⊥
    cell cells None q h = apart (rw (in_array, q) at h)
      where
        apart : {l : ℕ} → NotBelow l ≡ Now u → ⊥
        apart e = cc
    cell cells (Some (Empty rs)) q h = apart (rw (in_array, q) at h)
      where
        apart : {l : Arrays} {k : List Reader} → Stored l k ≡ Now u → ⊥
        apart e = cc
    cell cells (Some (Filled w z)) q h = apart (rw (in_array, q) at h)
      where
        apart : {l : ℕ} → Twice l ≡ Now u → ⊥
        apart e = cc

    array : (o : Option (List Cell)) → in_array j (store_of rows a j v t) o ≡ Now u → ⊥
    array None h = cc
    array (Some cells) h = cell cells (slice_get cells j) refl h

-- no activation changes
pub stays-same : (w v : World) → v.activations ≡ w.activations → Stays w v
stays-same w v e = record {
  there = λ j l. subst (λ (xs : _). j < length xs) (sym e) l;
  code = λ j l. ap (λ (xs : _). (activation_at (record w { activations = xs }) j).code) e;
}

module _ (g : Graph) (all : Partitions) (facts : CodeFacts g all) (args : List ℕ) (m : Machine) (s : State) (others : List (ℕ × ThreadKind))
    (rests : Rests g all m s others) (reached : IsReached g all args s) (limits : Limits) (k : ℕ) (x : Message) (at : slice_get (on_their_way s) k ≡ Some x)
    (rest : List Item) (made : ℕ) where
  -- the machine once the message is taken out
  abbrev pub taken : Machine
  taken = record m { pending = without_place k m.pending; order = rest; events = made }

  -- the message's number
  abbrev pub n : ℕ
  n = (found g all facts args m s others rests.keeps k x at).number

  -- what its delivery leaves fits
  fits : FitsAfter g (delivered_in s.world x)
  fits = delivery-fits g s.world rests.keeps.messages.readers x (message-fits g all facts args m s others rests.keeps k x at)

  -- ---- what moves no activation

  -- something was sent, and arrays may have changed
  went : (e : Effect) → e.world.activations ≡ s.world.activations → (u : Machine) → FitsAfter g (Went e)
      → u.table ≡ m.table → u.begun ≡ m.begun → u.codes ≡ m.codes → u.printed ≡ m.printed → u.events ≡ made
      → u.pending ≡ without_place k m.pending ++ map (thread_message g e.world) e.sends → thread_arrays g e.world e.world.arrays ≡ u.arrays
      → (o : Outcome Machine) → o ≡ Next u → Delivers g all (after_delivery s n (Went e)) others made o
  went e acts u fit table begun codes printed events pending arrays o is = record {
    after = u;
    goes = is;
    rests = record {
      keeps = keeps-still g all facts args m s others rests.keeps k x at (after_delivery s n (Went e)) u acts refl rests.keeps.no_fault table begun codes
          (messages-after g all facts args m s others rests.keeps k x at (after_delivery s n (Went e)) u e.sends (stays-same s.world e.world acts) refl refl
          (λ q h. answered-fits g e.world q (fit.0 q h)) fit.1 pending arrays (rests.keeps.messages.printed ∙ sym printed));
      rested = subst (λ (t : FrameTable). Rattle.tl0_keep.proofs.runs.Keeps.IsRested t) (sym table) rests.rested;
    };
    same_events = events;
  }

  -- ---- an access

  -- what comes of one
  access : (t a j : ℕ) (r p : Reader) (v : ℕ) (acc : Access) → (acc ≡ NoArray → ⊥) → ((u : ℕ) → acc ≡ Now u → thread_reader g s.world r ≡ p)
      → FitsAfter g (accessed_in s.world t j r v acc)
      → (o : Outcome Machine) → o ≡ accessed taken t a j p v (thread_access g s.world acc)
      → Delivers g all (after_delivery s n (accessed_in s.world t j r v acc)) others made o
      ⊎ ((q : Fault) × (accessed_in s.world t j r v acc ≡ Faulted q) × (o ≡ Ended (end_of q) taken))
  access t a j r p v (Now u) there reader fit o is = inl (went (sends_only s.world (Carry r.0 r.1 u ∷ [])) refl
      (with_message taken (Carry r.0 (inlet_at g s.world r.0 r.1) u)) fit refl refl refl refl refl refl rests.keeps.messages.arrays o
      (is ∙ ap (λ (q : Reader). Next (with_message taken (Carry q.0 q.1 u))) (sym (reader u refl))))
  access t a j r p v (Deferred arrays) there reader fit o is = inl (went (changes (record s.world { arrays = arrays })) refl
      (record taken { arrays = thread_arrays g s.world arrays }) fit refl refl refl refl refl (sym (none-behind (without_place k m.pending))) refl o is)
  access t a j r p v (Stored arrays rs) there reader fit o is = inl (went (sends_only (record s.world { arrays = arrays }) (answers v rs)) refl
      (record taken { arrays = thread_arrays g s.world arrays; pending = without_place k m.pending ++ answers v (map (thread_reader g s.world) rs) }) fit
      refl refl refl refl
      refl (ap (λ l. without_place k m.pending ++ l) (sym (answers-told g s.world v rs))) refl o is)
  access t a j r p v (Twice first) there reader fit o is = inr (Second_store first t, refl, is)
  access t a j r p v (NotBelow l) there reader fit o is = inr (Outside_cells t j l, refl, is)
  access t a j r p v NoArray there reader fit o is = absurd (there refl)

  -- ---- by the message

  -- a word is printed
  pub printed : (i u : ℕ) → x ≡ Carry outside i u → i < results_of (code_of g g.main) → any_of (λ (kw : ℕ × ℕ). kw.0 == i) s.printed ≡ false
      → Delivers g all (record s { printed = s.printed ++ (i, u) ∷ []; arrived = n ∷ s.arrived }) others made
      (delivered Plain (plain (compiled_with g all)) limits taken (Carry outside (inlet_at g s.world outside i) u))
  printed i u is low fresh = record {
    after = record taken { printed = m.printed ++ (i, u) ∷ [] };
    goes = ap (λ (z : Bool). elim z [
      | false ↦ Ended (Wild Wild_place i) taken
      | true ↦ elim (any_of (λ (kw : ℕ × ℕ). kw.0 == i) m.printed) [
        | true ↦ Ended (Wild Wild_place i) taken
        | false ↦ Next (record taken { printed = m.printed ++ (i, u) ∷ [] })
      ]
    ]) within
        ∙ ap (λ (z : Bool). elim z [ true ↦ Ended (Wild Wild_place i) taken | false ↦ Next (record taken { printed = m.printed ++ (i, u) ∷ [] }) ])
        (ap (any_of (λ (kw : ℕ × ℕ). kw.0 == i)) (sym rests.keeps.messages.printed) ∙ fresh);
    rests = record {
      keeps = keeps-still g all facts args m s others rests.keeps k x at (record s { printed = s.printed ++ (i, u) ∷ []; arrived = n ∷ s.arrived })
          (record taken { printed = m.printed ++ (i, u) ∷ [] }) refl refl rests.keeps.no_fault refl refl refl
          (messages-after g all facts args m s others rests.keeps k x at (record s { printed = s.printed ++ (i, u) ∷ []; arrived = n ∷ s.arrived })
          (record taken { printed = m.printed ++ (i, u) ∷ [] }) [] (stays-same s.world s.world refl) refl (sym (none-behind s.sent)) (λ q h. absurd h)
          rests.keeps.messages.readers (sym (none-behind (without_place k m.pending))) rests.keeps.messages.arrays
          (ap (λ (l : List (ℕ × ℕ)). l ++ (i, u) ∷ []) rests.keeps.messages.printed));
      rested = rests.rested;
    };
    same_events = refl;
  }
    where
      main : g.main < length g.codes
      main = subst (λ c. c < length g.codes) reached.activations.root_code (rests.keeps.frames.known 0 reached.activations.root)

      within : nat_lt i (code_text (plain (compiled_with g all)) g.main).results ≡ true
      within = below-test i (code_text (plain (compiled_with g all)) g.main).results
          (let e = (facts.texts g.main main).results in omega arith)

  -- a word comes to a node
  pub carried : (f i u : ℕ) → x ≡ Carry f i u → IsForMessages g s.world f i
      → Delivers g all (record s { world = got s.world f i u; sent = s.sent ++ []; arrived = n ∷ s.arrived }) others made
      (delivered Plain (plain (compiled_with g all)) limits taken (Carry f (inlet_at g s.world f i) u))
  carried f i u is for = subst (λ (q : Message). Delivers g all v others made (delivered Plain (plain (compiled_with g all)) limits taken q))
      (message-stays g s.world v.world (stays-got s.world f i u) (Carry f i u) (inr for))
      (word-goes g all facts m taken s v others rests f i u for none reached.few_activations refl refl rests.keeps.no_fault refl refl refl
      (messages-after g all facts args m s others rests.keeps k x at v taken [] (stays-got s.world f i u) refl refl (λ q h. absurd h) fit.1
      (sym (none-behind (without_place k m.pending)))
      (Rattle.tl0_keep.proofs.runs.Told.arrays-stay g s.world v.world (stays-got s.world f i u) s.world.arrays
      (λ a j rs r e h. (rests.keeps.messages.readers a j rs r e h).0)
      ∙ rests.keeps.messages.arrays) rests.keeps.messages.printed) limits)
    where
      v : State
      v = record s { world = got s.world f i u; sent = s.sent ++ []; arrived = n ∷ s.arrived }

      inside : (f == outside) ≡ false
      inside = not-outside f (length s.world.activations) for.0 reached.few_activations

      apart : f ≡ outside → ⊥
      apart e = true≢false (sym (eq-number f outside e) ∙ inside)

      none : word_of s.world f i ≡ []
      none = reached.once.not_yet n f i u apart (was-sent g all facts args m s others rests.keeps k x at ∙ ap Some is)
          (found g all facts args m s others rests.keeps k x at).not_yet

      fit : FitsAfter g (Went (changes (got s.world f i u)))
      fit = subst (FitsAfter g) (ap (delivered_in s.world) is ∙ ap (λ (z : Bool). elim z [ true ↦ Printed i u | false ↦ Went (changes (got s.world f i u)) ])
          inside) fits

  -- cells are made, or refused
  pub makes : (l f i : ℕ) → x ≡ Make l f i → Comes g all s others limits taken n (Make l f i)
      (delivered Plain (plain (compiled_with g all)) limits taken (Make l f (inlet_at g s.world f i)))
  makes l f i is = go (nat_lt limits.cells (cells_used m.arrays + l)) refl
    where
      go : (z : Bool) → nat_lt limits.cells (cells_used m.arrays + l) ≡ z → Comes g all s others limits taken n (Make l f i)
          (delivered Plain (plain (compiled_with g all)) limits taken (Make l f (inlet_at g s.world f i)))
      go true p = inr (inr (l, (f, (i, (refl, test-below limits.cells (cells_used m.arrays + l) p, rw (delivered, p) refl)))))
      go false p = inl (went _ refl (with_message (record taken { arrays = with_array m.arrays l }) (Carry f (inlet_at g s.world f i) (length m.arrays)))
          (subst (λ q. FitsAfter g (delivered_in s.world q)) is fits) refl refl refl refl refl
          (ap (λ (z : ℕ). without_place k m.pending ++ Carry f (inlet_at g s.world f i) z ∷ [])
          (ap (λ (rows : Arrays). length rows) (sym rests.keeps.messages.arrays)
          ∙ length-map s.world.arrays _)) (sym (array-told g s.world s.world.arrays l) ∙ ap (λ (rows : Arrays). with_array rows l) rests.keeps.messages.arrays)
          _ (rw (delivered, p) refl))

  -- a cell is asked for
  pub asks : (a j f i t : ℕ) → x ≡ Ask_cell a j f i t → (fetched_from s.world.arrays a j (f, i) ≡ NoArray → ⊥)
      → Comes g all s others limits taken n (Ask_cell a j f i t)
      (delivered Plain (plain (compiled_with g all)) limits taken (Ask_cell a j f (inlet_at g s.world f i) t))
  asks a j f i t is there = elim (access t a j (f, i) (f, inlet_at g s.world f i) 0 (fetched_from s.world.arrays a j (f, i)) there (λ u e. refl)
      (subst (λ q. FitsAfter g (delivered_in s.world q)) is fits)
      (delivered Plain (plain (compiled_with g all)) limits taken (Ask_cell a j f (inlet_at g s.world f i) t))
      (ap (accessed taken t a j (f, inlet_at g s.world f i) 0)
      (ap (λ (rows : Arrays). fetched_from rows a j (f, inlet_at g s.world f i)) (sym rests.keeps.messages.arrays) ∙ fetch-told g s.world s.world.arrays a j
      (f, i)))) [
        | inl d ↦ inl d
        | inr q ↦ inr (inl q)
      ]

  -- a word is stored
  pub puts : (a j v t : ℕ) → x ≡ Put_cell a j v t → (stored_into s.world.arrays a j v t ≡ NoArray → ⊥) → Comes g all s others limits taken n (Put_cell a j v t)
      (delivered Plain (plain (compiled_with g all)) limits taken (Put_cell a j v t))
  puts a j v t is there = elim (access t a j (0, 0) (0, 0) v (stored_into s.world.arrays a j v t) there
      (λ u e. absurd (store-not s.world.arrays a j v t u e)) (subst (λ q. FitsAfter g (delivered_in s.world q)) is fits)
      (delivered Plain (plain (compiled_with g all)) limits taken (Put_cell a j v t))
      (ap (accessed taken t a j (0, 0) v)
      (ap (λ (rows : Arrays). stored_into rows a j v t) (sym rests.keeps.messages.arrays) ∙ store-told g s.world s.world.arrays a j v t))) [
        | inl d ↦ inl d
        | inr q ↦ inr (inl q)
      ]
