-- The opening of a run: the root has begun, and the arguments are on their way.
use Rattle.std.proofs.Common.{◌≡◌, ℕ, zero, suc, ◌<◌, true, List, [], ◌∷◌, ◌++◌, map, flat_map, zip, Some, None, length}
use Rattle.std.proofs.Common.{refl, sym, ap, ap₂, subst, ◌∙◌, inl, inr, arith, true≢false}
use Rattle.std.proofs.lemmas.Option.{none-some}
use Rattle.tam_word.specs.Lists.{below}
use Rattle.tam_word.proofs.Members.{In, in-below, in-flat_map, in-map}
use Rattle.tam_msgs.specs.declared.message.Message.{Message}
use Rattle.tam_msgs.specs.declared.message.Message.TheVariants.{Word as Carry}
use Rattle.tam_msgs.specs.declared.item.Item.{Item}
use Rattle.tam_msgs.specs.Messages.{outside}
use Rattle.tam_graph.specs.Graphs.{Graph, code_of, kind_at, params_of, node_where, node_numbers, is_param, AreArguments}
use Rattle.tam_split.specs.GraphPartitions.{Partitions}
use Rattle.tam_world.specs.Worlds.{World, its_code, argument_message, opening}
use Rattle.tam_flow.specs.Journals.{State, on_their_way, initial}
use Rattle.tam_flow.specs.Reached.{IsThere, Has, cell_at}
use Rattle.tam_istr.specs.Cells.{Empty, Reader}
use Rattle.tam_flow.proofs.OnTheWay.{way-is, way-all}
use Rattle.tam_flow.proofs.Nodes.{is-param}
use Rattle.frame_tables.specs.FrameTables.{frame_at, no_frames}
use Rattle.tl0_code.specs.Machines.{Machine, slot}
use Rattle.tl0_code.specs.ThreadRuns.{nothing_begun, thread_opening, or_machine}
use Rattle.tl0_code.specs.ThreadCode.{plain}
use Rattle.tl0_keep.specs.Compiled.{compiled_with, slot_of}
use Rattle.tl0_keep.specs.ThreadNames.{thread_message}
use Rattle.tl0_keep.proofs.code.ThreadKinds.{Entry, Begun, Word_of, inlet_thread, takes_messages}
use Rattle.tl0_keep.proofs.runs.Keeps.{Owed, ticket, parts_in, Keeps, MessagesKeep, Rests, IsForMessages, Fits}
use Rattle.tl0_keep.proofs.code.CodeFacts.{CodeFacts}
use Rattle.tl0_keep.proofs.runs.Spending.{spend-due, spends, spent-state, rests-spent}
use Rattle.tl0_keep.proofs.runs.Reasons.{in-first}
use Rattle.tl0_keep.proofs.runs.NewFrames.{frame-begins, frame-rests}
use Rattle.tl0_keep.proofs.runs.Beginning.{SomeSource, new_table}

-- an element of two lists zipped has its first from the first
in-zip : (xs ys : List ℕ) (p : ℕ × ℕ) → In p (zip xs ys) → In p.0 xs
in-zip [] ys p h = absurd h
in-zip (x ∷ xs) [] p h = absurd h
in-zip (x ∷ xs) (y ∷ ys) p (inl e) = inl (ap (λ (z : ℕ × ℕ). z.0) e)
in-zip (x ∷ xs) (y ∷ ys) p (inr h) = inr (in-zip xs ys p h)

module _ (g : Graph) (all : Partitions) (facts : CodeFacts g all) (some : SomeSource g all) (args : List ℕ) (order : List Item) (main : g.main < length g.codes)
    (arguments : AreArguments g args) where
  -- the journal's state before the root
  abbrev pub nothing : State
  nothing = record { world = record { activations = []; arrays = []; makers = [] }; sent = []; arrived = []; ran = []; printed = []; fault = None }

  -- the machine before it
  abbrev pub empty : Machine
  empty = nothing_begun [] order

  -- nobody is there
  none-there : (i : ℕ) → IsThere nothing.world i → ⊥
  none-there i h = let l : i < 0 = h in omega arith

  -- no frame is there
  no-ready : (i t : ℕ) → In t (frame_at no_frames i).ready → ⊥
  no-ready zero t h = h
  no-ready (suc i) t h = h

  -- no cell is there
  no-cell : (a j : ℕ) (rs : List Reader) → cell_at nothing.world a j ≡ Some (Empty rs) → ⊥
  no-cell zero j rs h = none-some (Empty rs) h
  no-cell (suc a) j rs h = none-some (Empty rs) h

  -- nothing is kept of nothing
  nothing-keeps : Keeps g all empty nothing [] []
  nothing-keeps = record {
    frames = record {
      frames = refl;
      begun = refl;
      codes = refl;
      known = λ i l. absurd (none-there i l);
      live = λ i l. absurd (none-there i l);
      free = refl;
      caller = λ i l. absurd (none-there i l);
      root_inlet = refl;
      inlet = λ i p l. absurd (none-there i l);
      width = λ i l. absurd (none-there i l);
    };
    slots = record { own = λ i x v l w p h. absurd (none-there i l); come = λ i x v l lx p h q d. absurd (none-there i l) };
    threads = λ i n l h. absurd (none-there i l);
    ready = record { once = λ i l. absurd (none-there i l); threads = λ i t l h. absurd (none-there i l) };
    turns = record {
      once = tt;
      queued = λ i h. absurd h;
      current = λ i e. absurd (none-some i e);
      ready = λ i t h. absurd (no-ready i t h);
    };
    messages = record {
      pending = refl;
      arrays = refl;
      printed = refl;
      fit = λ x h. absurd h;
      readers = λ a j rs r e h. absurd (no-cell a j rs e);
      arrived_sent = λ n h. absurd (true≢false (sym h));
    };
    no_fault = refl;
    others_there = λ i n h. absurd h;
    runs_there = λ i b k h. absurd (true≢false (sym h));
    due_once = tt;
    due_given = λ i n t h. absurd h;
  }

  -- the arguments
  abbrev pub pairs : List (ℕ × ℕ)
  pairs = zip (below (length args)) args

  -- the machine with the root's frame
  abbrev pub root_machine : Machine
  root_machine = record (nothing_begun args order) { table = new_table g all no_frames g.main outside 0; codes = g.main ∷ []; begun = 1 }

  -- its code is main's
  abbrev pub w : World
  w = opening g

  -- the root takes words of its params
  for-param : (x k : ℕ) → is_param k (kind_at (code_of g g.main) x) ≡ true → IsForMessages g (opening g) 0 x
  for-param x k h = (omega arith, ap takes_messages (is-param k (kind_at (code_of g g.main) x) h))

  -- an argument, told
  told : (k v : ℕ) → k < params_of (code_of g g.main) → map (thread_message g (opening g)) (argument_message g (k, v)) ≡ Carry 0 k v ∷ []
  told k v l =
      let r = (facts.texts g.main main).param_at k l in
      ap (λ (xs : List ℕ). map (thread_message g (opening g)) (map (λ x. Carry 0 x v) xs)) r.1 ∙ ap (λ (i : ℕ). Carry 0 i v ∷ []) r.2

  -- the arguments, told
  all-told : (ps : List (ℕ × ℕ)) → ((p : ℕ × ℕ) → In p ps → p.0 < params_of (code_of g g.main))
      → map (thread_message g (opening g)) (flat_map (argument_message g) ps) ≡ map (λ (kw : ℕ × ℕ). Carry 0 kw.0 kw.1) ps
  all-told [] h = refl
  all-told (p ∷ ps) h =
      Rattle.std.proofs.lemmas.List.map-append (thread_message g (opening g)) (argument_message g p) (flat_map (argument_message g) ps)
      ∙ ap₂ (λ (a b : List Message). a ++ b) (told p.0 p.1 (h p (inl refl))) (all-told ps (λ q i. h q (inr i)))

  -- none has arrived
  way : on_their_way (initial g args) ≡ flat_map (argument_message g) (zip (below (length args)) args)
  way = way-is (initial g args) ∙ way-all [] 0 (initial g args).sent (λ k l. refl)

  -- the messages
  messages : MessagesKeep g root_machine (initial g args)
  messages = record {
    pending = ap (map (thread_message g (opening g))) way ∙ all-told (zip (below (length args)) args)
        (λ p h. let l = in-below p.0 (length args) (in-zip (below (length args)) args p h) in let e = arguments.one_each in omega arith);
    arrays = refl;
    printed = refl;
    fit = λ x h. fit x (in-flat_map (argument_message g) x (zip (below (length args)) args) (subst (In x) way h));
    readers = λ a j rs r e h. absurd (no-cell-now a j rs e);
    arrived_sent = λ n h. absurd (true≢false (sym h));
  }
    where
      no-cell-now : (a j : ℕ) (rs : List Reader) → cell_at (opening g) a j ≡ Some (Empty rs) → ⊥
      no-cell-now zero j rs h = none-some (Empty rs) h
      no-cell-now (suc a) j rs h = none-some (Empty rs) h

      fit : (x : Message) → (p : ℕ × ℕ) × In p (zip (below (length args)) args) × In x (argument_message g p) → Fits g (opening g) x
      fit x (p, i, h) =
          let r = in-map (λ (y : ℕ). Carry 0 y p.1) x (node_where (code_of g g.main) (is_param p.0)) h in
          subst (Fits g (opening g)) r.2 (inr (for-param r.0 p.0 (in-first (λ y. is_param p.0 (kind_at (code_of g g.main) y))
          (node_numbers (code_of g g.main)) r.0 r.1).1))

  -- the root has begun
  pub root-begins : Keeps g all root_machine (initial g args) [] (ticket 0 Entry Begun ∷ [])
  root-begins = frame-begins g all facts some empty nothing [] nothing-keeps g.main outside 0 0 main (initial g args) root_machine refl refl refl refl refl refl
      (λ l. absurd (omega arith)) (λ e. refl) (λ j p l. absurd (none-there j l)) messages

  -- its ticket is no word's
  pub word : (x v : ℕ) → ticket 0 Entry Begun
      ≡ ticket 0 (inlet_thread (its_code g (initial g args).world 0) (parts_in g all (initial g args) [] 0) x) (Word_of x)
      → Has (initial g args) 0 x v → slot root_machine 0 (slot_of (its_code g (initial g args).world 0) x) ≡ v
  word x v e h = absurd (apart (ap (λ (z : Owed). z.1.source) e))
    where
      apart : Begun ≡ Word_of x → ⊥
      apart z = cc

  -- the opening
  abbrev pub opened : Machine
  opened = spent-state g all facts root_machine (initial g args) [] [] 0 Entry Begun root-begins word

  -- is that of the run
  pub opening-is : thread_opening (plain (compiled_with g all)) args order ≡ opened
  opening-is = ap (or_machine (nothing_begun args order)) (spends g all facts root_machine (initial g args) [] [] 0 Entry Begun root-begins word)

  -- and rests
  pub opening-rests : Rests g all opened (initial g args) []
  opening-rests = record {
    keeps = spend-due g all facts root_machine (initial g args) [] [] 0 Entry Begun root-begins word;
    rested = rests-spent g all facts root_machine (initial g args) [] [] 0 Entry Begun root-begins word
        (frame-rests g all facts some empty nothing [] nothing-keeps g.main outside 0 0 main (initial g args) root_machine refl refl refl refl refl refl
        (λ l. absurd (omega arith)) (λ e. refl) (λ j p l. absurd (none-there j l)) messages (λ i e h. none-some i e));
  }

  -- no event was made
  pub opening-events : opened.events ≡ 0
  opening-events = refl
