-- A message is delivered that brings no activation: it arrives in the journal too, and all is kept.
use Rattle.std.proofs.Common.{◌≡◌, ℕ, zero, suc, ◌<◌, ◌≤◌, Bool, true, false, not, ◌==◌, nat_lt, List, [], ◌∷◌, ◌++◌, map, Option, Some, None}
use Rattle.std.proofs.Common.{slice_get, slice_index, length, is_none}
use Rattle.std.proofs.Common.{refl, sym, ap, ap₂, subst, ◌∙◌, inl, inr, ◌⊎◌, arith, true≢false}
use Rattle.std.proofs.lemmas.Option.{slice_get_within}
use Rattle.std.proofs.lemmas.List.{map-append}
use Rattle.tam_word.specs.Lists.{has, without_place, any_of}
use Rattle.tam_word.proofs.Tests.{number-eq, true-both, below-test}
use Rattle.tam_word.proofs.Members.{In, in-append, get-in, in-below}
use Rattle.tam_msgs.specs.declared.message.Message.{Message}
use Rattle.tam_istr.specs.Cells.{Empty, Reader}
use Rattle.tam_graph.specs.declared.kind.Kind.{Kind}
use Rattle.tam_graph.specs.declared.kind.Kind.TheVariants.{Param, Const, Op as Operate, Seq, Call, Arg, Ret, Give, Alloc, Fetch, Store, Cond}
use Rattle.tam_graph.specs.declared.kind.Kind.TheVariants.{Switch as Choose, Merge}
use Rattle.tam_graph.specs.declared.kind.Kind.TheVariants.{Enter, Leave}
use Rattle.tam_graph.specs.Graphs.{Code, Graph, code_of, kind_at, is_inlet, has_value}
use Rattle.tam_split.specs.GraphPartitions.{Partitions}
use Rattle.tam_split.proofs.Firers.{kind-there}
use Rattle.tam_world.specs.Worlds.{World, Fault, activation_at, its_code, has_word, word_of, has_entered, got, delivered}
use Rattle.tam_flow.specs.Journals.{State, Deliver, on_their_way, may_follow, may_arrive, after_delivery, after_event, deliver_all, or_message}
use Rattle.tam_flow.specs.Reached.{IsThere, Has, cell_at}
use Rattle.tam_flow.proofs.ActivationLists.{has-word, word-there}
use Rattle.tam_flow.proofs.OnTheWay.{way_from, way-is, way-sent, AtPlace, at-place}
use Rattle.tam_flow.proofs.Gifts.{HaveGot, got-one}
use Rattle.frame_tables.specs.FrameTables.{FrameTable, frame_at}
use Rattle.tl0_code.specs.Machines.{Machine, slot}
use Rattle.tl0_code.specs.ThreadCode.{code_text, plain}
use Rattle.tl0_keep.specs.Compiled.{slot_of, compiled_with}
use Rattle.tl0_keep.specs.ThreadNames.{thread_message, thread_arrays}
use Rattle.tl0_keep.proofs.code.ThreadKinds.{ThreadKind, Class, Word_of, IsThread, sources_of, parts_for, inlet_thread, takes_messages}
use Rattle.tl0_keep.proofs.runs.Keeps.{Owed, ticket, parts_in, PostedAt, Posted, Given, Keeps, SlotsKeep, MessagesKeep, Fits, IsForMessages}
use Rattle.tl0_keep.proofs.code.CodeFacts.{TextFacts, CodeFacts}
use Rattle.tl0_keep.proofs.runs.Reasons.{enter-kind}
use Rattle.tl0_keep.proofs.runs.Told.{Stays, messages-stay, fits-stays}
use Rattle.tl0_keep.proofs.class_run.Frames.{alike-same}
use Rattle.tl0_keep.proofs.class_run.Later.{Follows}
use Rattle.tl0_keep.proofs.class_run.Whole.{keeps-later}

-- a list with nothing behind
pub none-behind : {X : Type 0} (xs : List X) → xs ++ [] ≡ xs
none-behind [] = refl
none-behind (x ∷ xs) = ap (λ l. x ∷ l) (none-behind xs)

-- what is left of a mapped list
map-without : {X Y : Type 0} (f : X → Y) (k : ℕ) (xs : List X) → map f (without_place k xs) ≡ without_place k (map f xs)
map-without f k [] = refl
map-without f zero (x ∷ xs) = refl
map-without f (suc k) (x ∷ xs) = ap (λ l. f x ∷ l) (map-without f k xs)

-- what is left of a list was in it
in-without : {X : Type 0} (k : ℕ) (xs : List X) (x : X) → In x (without_place k xs) → In x xs
in-without k [] x h = h
in-without zero (y ∷ ys) x h = inr h
in-without (suc k) (y ∷ ys) x (inl e) = inl e
in-without (suc k) (y ∷ ys) x (inr h) = inr (in-without k ys x h)

-- what has arrived once one more has
arrived-cases : (arrived : List ℕ) (n k : ℕ) → has (n ∷ arrived) k ≡ true → (n ≡ k) ⊎ (has arrived k ≡ true)
arrived-cases arrived n k h = go (n == k) refl
  where
    go : (t : Bool) → (n == k) ≡ t → (n ≡ k) ⊎ (has arrived k ≡ true)
    go true p = inl (number-eq n k p)
    go false p = inr (rw (has, any_of, p) at h)

-- as long
pub longer : {X : Type 0} (xs ys : List X) → length xs ≤ length (xs ++ ys)
longer [] ys = omega arith
longer (x ∷ xs) ys = let h = longer xs ys in omega arith

-- the readers that wait take messages
abbrev pub ReadersTake : Graph → World → Type 0
ReadersTake g w = (a j : ℕ) (rs : List Reader) (r : Reader) → cell_at w a j ≡ Some (Empty rs) → In r rs → IsForMessages g w r.0 r.1

module _ (g : Graph) (all : Partitions) (facts : CodeFacts g all) (args : List ℕ) (m : Machine) (s : State) (others : List (ℕ × ThreadKind))
    (keeps : Keeps g all m s others []) (k : ℕ) (x : Message) (at : slice_get (on_their_way s) k ≡ Some x) where
  -- its number
  pub found : AtPlace s.arrived 0 s.sent k x
  found = at-place s.arrived 0 s.sent k x (subst (λ l. slice_get l k ≡ Some x) (way-is s) at)

  -- it was sent
  pub was-sent : slice_get s.sent found.number ≡ Some x
  was-sent = found.was_sent found.number (omega arith)

  -- so it is one of those sent
  number-within : found.number < length s.sent
  number-within = slice_get_within s.sent found.number x was-sent

  -- its delivery may follow
  pub may : may_follow g all s (Deliver found.number) ≡ true
  may = true-both (is_none s.fault) (may_arrive s found.number) (ap (λ (o : Option Fault). is_none o) keeps.no_fault)
      (true-both (nat_lt found.number (length s.sent)) (not (has s.arrived found.number)) (below-test found.number (length s.sent) number-within)
      (ap not found.not_yet))

  -- and leads there
  pub leads : after_event g all s (Deliver found.number) ≡ after_delivery s found.number (delivered s.world x)
  leads = ap (λ o. deliver_all s found.number (or_message o)) was-sent

  -- what arrived was sent
  arrived-sent : (n : ℕ) → has (found.number ∷ s.arrived) n ≡ true → n < length s.sent
  arrived-sent n h = elim (arrived-cases s.arrived found.number n h) [
    | inl e ↦ subst (λ z. z < length s.sent) e number-within
    | inr r ↦ keeps.messages.arrived_sent n r
  ]

  -- it fits
  pub message-fits : Fits g s.world x
  message-fits = keeps.messages.fit x (get-in (on_their_way s) k x at)

  -- the messages behind it, with what is sent
  pub messages-after : (v : State) (u : Machine) (sends : List Message) → Stays s.world v.world → v.arrived ≡ found.number ∷ s.arrived → v.sent ≡ s.sent
      ++ sends
      → ((q : Message) → In q sends → Fits g v.world q) → ReadersTake g v.world
      → u.pending ≡ without_place k m.pending ++ map (thread_message g v.world) sends → thread_arrays g v.world v.world.arrays ≡ u.arrays
      → v.printed ≡ u.printed
      → MessagesKeep g u v
  messages-after v u sends stays arrived sent fits readers pending arrays printed = record {
    pending = ap (map (thread_message g v.world)) way ∙ (map-append (thread_message g v.world) (without_place k (on_their_way s)) sends
        ∙ (ap (λ l. l ++ map (thread_message g v.world) sends)
        (messages-stay g s.world v.world stays (without_place k (on_their_way s)) (λ q h. keeps.messages.fit q (in-without k (on_their_way s) q h))
        ∙ (map-without (thread_message g s.world) k (on_their_way s) ∙ ap (without_place k) keeps.messages.pending)) ∙ sym pending));
    arrays = arrays;
    printed = printed;
    fit = λ q h. elim (in-append q (without_place k (on_their_way s)) sends (subst (In q) way h)) [
      | inl a ↦ fits-stays g s.world v.world stays q (keeps.messages.fit q (in-without k (on_their_way s) q a))
      | inr b ↦ fits q b
    ];
    readers = readers;
    arrived_sent = λ n h. let l = arrived-sent n (subst (λ xs. has xs n ≡ true) arrived h) in let p = longer s.sent sends in let e = ap length sent in
        omega arith;
  }
    where
      way : on_their_way v ≡ without_place k (on_their_way s) ++ sends
      way = way-is v ∙ (ap₂ (λ xs ms. way_from xs 0 ms) arrived sent ∙ (way-sent (found.number ∷ s.arrived) s.sent sends arrived-sent
          ∙ ap (λ l. l ++ sends) (found.taken_out ∙ ap (without_place k) (sym (way-is s)))))

  -- ---- the activations stay as they are

  module _ (v : State) (u : Machine) (acts : v.world.activations ≡ s.world.activations) (ran : v.ran ≡ s.ran) (fault : v.fault ≡ None)
      (table : u.table ≡ m.table) (begun : u.begun ≡ m.begun) (codes : u.codes ≡ m.codes) (messages : MessagesKeep g u v) where
    -- all is kept
    pub keeps-still : Keeps g all u v others []
    keeps-still = keeps-later g all others s v on (λ j y. ⊥) (λ j b. ⊥) [] (record {
      words = λ j y h. inl (subst (λ (l : _). has_word (record s.world { activations = l }) j y ≡ true) acts h);
      blocks = λ j b h. inl (subst (λ (l : _). has_entered (record s.world { activations = l }) j b ≡ true) acts h);
      inlets = λ j b k y h e t i. absurd h;
      then_cond = λ j y p a b e h. absurd h;
      else_cond = λ j y p a b e h. absurd h;
      then_switch = λ j y d k a e is i h. absurd h;
      else_switch = λ j y d k a e is i h. absurd h;
    }) m u (alike-same m u table begun codes) [] (record { fresh = λ j n t i. absurd i; given = λ j n t i. absurd i; once = tt }) fault slots messages keeps
      where
        on : Follows g all others s v
        on = record {
          frames = record {
            as_many = ap (λ (l : _). length l) acts;
            code = λ j. ap (λ (l : _). (activation_at (record s.world { activations = l }) j).code) acts;
            caller = λ j. ap (λ (l : _). (activation_at (record s.world { activations = l }) j).caller) acts;
            call = λ j. ap (λ (l : _). (activation_at (record s.world { activations = l }) j).call) acts;
          };
          ran = ran;
          words = λ j y h. subst (λ (l : _). has_word (record s.world { activations = l }) j y ≡ true) (sym acts) h;
          blocks = λ j b h. subst (λ (l : _). has_entered (record s.world { activations = l }) j b ≡ true) (sym acts) h;
        }

        old : SlotsKeep g all u s others []
        old = record {
          own = λ j y w l a b h. ap (λ (t : FrameTable). slice_index (frame_at t j).slots (slot_of (its_code g s.world j) y)) table
              ∙ keeps.slots.own j y w l a b h;
          come = λ j y w l a b h p f. ap (λ (t : FrameTable). slice_index (frame_at t j).slots (slot_of (its_code g s.world j) y)) table
              ∙ keeps.slots.come j y w l a b h p f;
        }

        slots : SlotsKeep g all u v others []
        slots = subst (λ (l : _). SlotsKeep g all u (record v { world = record v.world { activations = l } }) others []) (sym acts)
            (record { own = old.own; come = old.come })

-- ---- a word comes to a node

-- messages come to inlets
pub takes-inlet : (z : Kind) → takes_messages z ≡ true → is_inlet z ≡ true
takes-inlet (Param k) h = refl
takes-inlet (Call f) h = refl
takes-inlet (Ret f k) h = refl
takes-inlet (Alloc n) h = refl
takes-inlet (Fetch a i) h = refl
takes-inlet z h = absurd (true≢false (sym h))

-- which are posted where they have a word
takes-posted : (g : Graph) (all : Partitions) (s : State) (others : List (ℕ × ThreadKind)) (c : Code) (j x : ℕ) (z : Kind) → takes_messages z ≡ true
    → (has_word s.world j x ≡ true → PostedAt g all s others c j x z) × (PostedAt g all s others c j x z → has_word s.world j x ≡ true)
takes-posted g all s others c j x (Param k) h = (λ q. q, λ q. q)
takes-posted g all s others c j x (Call f) h = (λ q. q, λ q. q)
takes-posted g all s others c j x (Ret f k) h = (λ q. q, λ q. q)
takes-posted g all s others c j x (Alloc n) h = (λ q. q, λ q. q)
takes-posted g all s others c j x (Fetch a i) h = (λ q. q, λ q. q)
takes-posted g all s others c j x z h = absurd (true≢false (sym h))

-- what is posted and has had a word, was posted
old-posted : (g : Graph) (all : Partitions) (s v : State) (others : List (ℕ × ThreadKind)) (c : Code) (j x : ℕ) (z : Kind) → has_word s.world j x ≡ true
    → PostedAt g all v others c j x z → PostedAt g all s others c j x z
old-posted g all s v others c j x (Enter k) w h = h
old-posted g all s v others c j x (Param e) w h = w
old-posted g all s v others c j x (Const e) w h = w
old-posted g all s v others c j x (Operate o y z) w h = w
old-posted g all s v others c j x (Seq y z) w h = w
old-posted g all s v others c j x (Call e) w h = w
old-posted g all s v others c j x (Arg f y z) w h = w
old-posted g all s v others c j x (Ret f e) w h = w
old-posted g all s v others c j x (Give e y) w h = w
old-posted g all s v others c j x (Alloc e) w h = w
old-posted g all s v others c j x (Fetch y z) w h = w
old-posted g all s v others c j x (Store y z q) w h = w
old-posted g all s v others c j x (Cond y z q) w h = w
old-posted g all s v others c j x (Choose y z q) w h = w
old-posted g all s v others c j x (Merge y z) w h = w
old-posted g all s v others c j x (Leave y z) w h = w

module _ (g : Graph) (all : Partitions) (facts : CodeFacts g all) (m : Machine) (s : State) (others : List (ℕ × ThreadKind))
    (keeps : Keeps g all m s others []) (f x u : ℕ) (for : IsForMessages g s.world f x) (none : word_of s.world f x ≡ []) (v : State) (k : Machine)
    (world : v.world ≡ got s.world f x u) (ran : v.ran ≡ s.ran) (fault : v.fault ≡ None)
    (table : k.table ≡ m.table) (begun : k.begun ≡ m.begun) (codes : k.codes ≡ m.codes) (messages : MessagesKeep g k v) where
  -- its ticket
  abbrev pub word_ticket : Owed
  word_ticket = ticket f (inlet_thread (its_code g s.world f) (parts_in g all s others f) x) (Word_of x)

  -- what is changed
  gave : HaveGot s.world v.world f (x ∷ []) u
  gave = subst (λ w. HaveGot s.world w f (x ∷ []) u) (sym world) (got-one s.world f x u)

  -- the code's facts
  text : (j : ℕ) → IsThere s.world j
      → TextFacts g (its_code g s.world j) (parts_in g all s others j) (code_text (plain (compiled_with g all)) (activation_at s.world j).code)
  text j l = facts.texts (activation_at s.world j).code (keeps.frames.known j l)

  -- the node is there
  pub node-there : x < length (its_code g s.world f).nodes
  node-there = in-below x (length (its_code g s.world f).nodes) (kind-there (its_code g s.world f) x takes_messages refl for.1)

  -- it is an inlet
  pub inlet : is_inlet (kind_at (its_code g s.world f) x) ≡ true
  inlet = takes-inlet (kind_at (its_code g s.world f) x) for.1

  -- a new word is its
  abbrev NewWord : ℕ → ℕ → Type 0
  NewWord j y = (j ≡ f) × (x ≡ y)

  -- a word is old or new
  words : (j y w : ℕ) → Has v j y w → Has s j y w ⊎ (NewWord j y × (word_of v.world j y ≡ u ∷ []))
  words j y w h = elim (gave.words j y) [
    | inl e ↦ inl (sym e ∙ h)
    | inr (a, inl b, c) ↦ inr ((a, b), c)
    | inr (a, inr b, c) ↦ absurd b
  ]

  -- the state follows
  pub on : Follows g all others s v
  on = record {
    frames = gave.frames;
    ran = ran;
    words = λ j y h. let w = has-word (activation_at s.world j).words y h in elim (gave.words j y) [
      | inl e ↦ word-there (activation_at v.world j).words y w.0 (e ∙ w.1)
      | inr e ↦ word-there (activation_at v.world j).words y u e.2
    ];
    blocks = λ j b h. gave.blocks j b ∙ h;
  }

  -- the ticket is given by it
  pub word-given : Given g all v others f (inlet_thread (its_code g s.world f) (parts_in g all s others f) x) (Word_of x)
  word-given =
      let i = (text f for.0).inlet_source x node-there inlet in
      let e = sym (gave.frames.code f) in
      let n = inlet_thread (its_code g s.world f) (parts_in g all s others f) x in
      record {
        there = subst (λ n. f < n) (sym gave.frames.as_many) for.0;
        thread = subst (λ c. IsThread (code_of g c) (parts_for all c) n) e i.0;
        source = subst (λ c. In (Word_of x) (sources_of (code_of g c) (parts_for all c) n)) e i.1;
        reason = subst (λ c. PostedAt g all v others (code_of g c) f x (kind_at (code_of g c) x)) e
            ((takes-posted g all v others (its_code g s.world f) f x (kind_at (its_code g s.world f) x) for.1).0
            (word-there (activation_at v.world f).words x u (gave.given x for.0 (inl refl))));
      }

  -- and wasn't before
  word-fresh : Given g all s others f (inlet_thread (its_code g s.world f) (parts_in g all s others f) x) (Word_of x) → ⊥
  word-fresh h =
      let w = (takes-posted g all s others (its_code g s.world f) f x (kind_at (its_code g s.world f) x) for.1).1 h.reason in
      let r = has-word (activation_at s.world f).words x w in
      let z : [] ≡ r.0 ∷ [] = sym none ∙ r.1 in absurd cc

  -- no `in` has a new word
  no-enter : (j b q e : ℕ) → In e (Rattle.tam_graph.specs.Graphs.node_in (its_code g s.world j) b (Rattle.tam_graph.specs.Graphs.is_enter q)) → NewWord j e → ⊥
  no-enter j b q e i (p, o) = enter-kind (its_code g s.world j) b q e i
      (subst (λ z. takes_messages (kind_at (its_code g s.world j) z) ≡ true) o (subst (λ z. takes_messages (kind_at (its_code g s.world z) x) ≡ true) (sym p)
      for.1))

  -- the slots
  slots : SlotsKeep g all k v others (word_ticket ∷ [])
  slots = record {
    own = λ j y w l a b h. own j (there-before j l) y w h (gave.frames.code j) a b;
    come = λ j y w l ly b h p q. come j (there-before j l) y w h (gave.frames.code j) ly b p q;
  }
    where
      there-before : (j : ℕ) → IsThere v.world j → IsThere s.world j
      there-before j l = subst (λ n. j < n) gave.frames.as_many l

      same : (j a : ℕ) → slot k j a ≡ slot m j a
      same j a = ap (λ (t : FrameTable). slice_index (frame_at t j).slots a) table

      own : (j : ℕ) → IsThere s.world j → (y w : ℕ) → Has v j y w → (activation_at v.world j).code ≡ (activation_at s.world j).code
          → has_value (kind_at (its_code g v.world j) y) ≡ true → is_inlet (kind_at (its_code g v.world j) y) ≡ false
          → slot k j (slot_of (its_code g v.world j) y) ≡ w
      own j l y w h e a b =
          let a : has_value (kind_at (its_code g s.world j) y) ≡ true = subst (λ c. has_value (kind_at (code_of g c) y) ≡ true) e a in
          let b : is_inlet (kind_at (its_code g s.world j) y) ≡ false = subst (λ c. is_inlet (kind_at (code_of g c) y) ≡ false) e b in
          subst (λ c. slot k j (slot_of (code_of g c) y) ≡ w) (sym e) (same j (slot_of (its_code g s.world j) y) ∙ elim (words j y w h) [
            | inl o ↦ keeps.slots.own j y w l a b o
            | inr n ↦ absurd (true≢false (sym inlet ∙ subst (λ z. is_inlet (kind_at (its_code g s.world z) x) ≡ false) n.0.0
                (subst (λ z. is_inlet (kind_at (its_code g s.world j) z) ≡ false) (sym n.0.1) b)))
          ])

      come : (j : ℕ) → IsThere s.world j → (y w : ℕ) → Has v j y w → (activation_at v.world j).code ≡ (activation_at s.world j).code
          → y < length (its_code g v.world j).nodes → is_inlet (kind_at (its_code g v.world j) y) ≡ true
          → Posted g all v others j y (kind_at (its_code g v.world j) y)
          → (In (ticket j (inlet_thread (its_code g v.world j) (parts_in g all v others j) y) (Word_of y)) (word_ticket ∷ []) → ⊥)
          → slot k j (slot_of (its_code g v.world j) y) ≡ w
      come j l y w h e ly b p q =
          let ly : y < length (its_code g s.world j).nodes = subst (λ c. y < length (code_of g c).nodes) e ly in
          let b : is_inlet (kind_at (its_code g s.world j) y) ≡ true = subst (λ c. is_inlet (kind_at (code_of g c) y) ≡ true) e b in
          let p : PostedAt g all v others (its_code g s.world j) j y (kind_at (its_code g s.world j) y) =
          subst (λ c. PostedAt g all v others (code_of g c) j y (kind_at (code_of g c) y)) e p in
          let q : In (ticket j (inlet_thread (its_code g s.world j) (parts_in g all s others j) y) (Word_of y)) (word_ticket ∷ []) → ⊥ =
          subst (λ c. In (ticket j (inlet_thread (code_of g c) (parts_for all c) y) (Word_of y)) (word_ticket ∷ []) → ⊥) e q in
          subst (λ c. slot k j (slot_of (code_of g c) y) ≡ w) (sym e) (same j (slot_of (its_code g s.world j) y) ∙ elim (words j y w h) [
            | inl o ↦ keeps.slots.come j y w l ly b o
                (old-posted g all s v others (its_code g s.world j) j y (kind_at (its_code g s.world j) y) (word-there (activation_at s.world j).words y w o)
                p) (λ z. z)
            | inr n ↦ absurd (q (subst (λ z. In (ticket z (inlet_thread (its_code g s.world z) (parts_in g all s others z) y) (Word_of y))
                (word_ticket ∷ [])) (sym n.0.0)
                (subst (λ z. In (ticket f (inlet_thread (its_code g s.world f) (parts_in g all s others f) z) (Word_of z)) (word_ticket ∷ [])) n.0.1
                (inl refl))))
          ])

  -- the word has come, and its ticket is due
  pub word-comes : Keeps g all k v others (word_ticket ∷ [])
  word-comes = keeps-later g all others s v on NewWord (λ j b. ⊥) (word_ticket ∷ []) (record {
    words = λ j y h. let w = has-word (activation_at v.world j).words y h in elim (words j y w.0 w.1) [
      | inl o ↦ inl (word-there (activation_at s.world j).words y w.0 o)
      | inr n ↦ inr n.0
    ];
    blocks = λ j b h. inl (sym (gave.blocks j b) ∙ h);
    inlets = λ j b q y n e t i. inl (inlets j b q y n t i);
    then_cond = λ j y p a b e h. absurd h;
    else_cond = λ j y p a b e h. absurd h;
    then_switch = λ j y d q a e is i h. absurd (no-enter j _ q e i h);
    else_switch = λ j y d q a e is i h. absurd (no-enter j _ q e i h);
  }) m k (alike-same m k table begun codes) [] (record {
    fresh = λ j n t i. elim i [
      | inl e ↦ subst (λ (z : Owed). Given g all s others z.0 z.1.thread z.1.source → ⊥) e word-fresh
      | inr z ↦ absurd z
    ];
    given = λ j n t i. elim i [
      | inl e ↦ subst (λ (z : Owed). Given g all v others z.0 z.1.thread z.1.source) e word-given
      | inr z ↦ absurd z
    ];
    once = (λ z. z, tt);
  }) fault slots messages keeps
    where
      inlets : (j b q y : ℕ) → NewWord j y → IsThread (its_code g s.world j) (parts_in g all s others j) (Class b q)
          → In (Word_of y) (sources_of (its_code g s.world j) (parts_in g all s others j) (Class b q)) → word_ticket ≡ ticket j (Class b q) (Word_of y)
      inlets j b q y (p, o) t i = subst (λ z. word_ticket ≡ ticket j z (Word_of y)) ((text j (subst (IsThere s.world) (sym p) for.0)).source_inlet b q y t i).2
          (subst (λ z. word_ticket ≡ ticket z (inlet_thread (its_code g s.world z) (parts_in g all s others z) y) (Word_of y)) (sym p)
          (ap (λ z. ticket f (inlet_thread (its_code g s.world f) (parts_in g all s others f) z) (Word_of z)) o))
