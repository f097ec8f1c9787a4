-- Which tickets are given once an event was made: those before it, and those for which it is the reason.
use Rattle.std.proofs.Common.{◌≡◌, ℕ, zero, suc, ◌<◌, Bool, true, false, List, [], ◌∷◌, map, Option, Some, None, slice_get, length}
use Rattle.std.proofs.Common.{refl, sym, ap, subst, ◌∙◌, inl, inr, ◌⊎◌, true≢false}
use Rattle.tam_word.specs.Lists.{first_of}
use Rattle.tam_word.proofs.Members.{In, in-map, in-flat_map}
use Rattle.tam_graph.specs.declared.kind.Kind.{Kind}
use Rattle.tam_graph.specs.declared.kind.Kind.TheVariants.{Param, Const, Op as Operate, Seq, Call, Arg, Ret, Give, Alloc, Fetch, Store, Cond}
use Rattle.tam_graph.specs.declared.kind.Kind.TheVariants.{Switch as Choose, Merge}
use Rattle.tam_graph.specs.declared.kind.Kind.TheVariants.{Enter, Leave}
use Rattle.tam_graph.specs.Graphs.{Code, Graph, code_of, kind_at, nodes_in, node_in, node_where, node_numbers, block_at, is_enter, is_switch}
use Rattle.tam_graph.specs.Graphs.{owner_of, one_or_none}
use Rattle.tam_split.specs.GraphPartitions.{Partitions}
use Rattle.tam_world.specs.Worlds.{activation_at, its_code, has_word, has_entered}
use Rattle.tam_flow.specs.Journals.{State, has_run}
use Rattle.tam_flow.specs.Reached.{IsThere}
use Rattle.tl0_code.specs.ThreadCode.{code_text, plain}
use Rattle.tl0_keep.specs.Compiled.{yes_of, no_of, compiled_with}
use Rattle.tl0_keep.proofs.code.ThreadKinds.{ThreadKind, Entry, Class, Then_of, Else_of, Source, Word_of, Behind, Opened, Begun, Ticket, IsThread, sources_of}
use Rattle.tl0_keep.proofs.code.ThreadKinds.{parts_for, fork_tickets, inlet_thread, opener_of, poster_of, connector_into, takes_messages}
use Rattle.tl0_keep.proofs.runs.Keeps.{parts_in, OneRan, PostedAt, HasEntered, ChoseThen, ChoseElse, ReasonAt, Given}
use Rattle.tl0_keep.proofs.code.CodeFacts.{TextFacts, CodeFacts, IsOther}
use Rattle.tl0_keep.proofs.runs.Frames.{same-or-other}

-- ---- the first that passes

-- it is an element, and passes
pub in-first : {X : Type 0} (test : X → Bool) (xs : List X) (e : X) → In e (first_of test xs) → In e xs × (test e ≡ true)
in-first test [] e h = absurd h
in-first test (z ∷ zs) e h = go (test z) refl (in-first test zs e)
  where
    one : In e (z ∷ []) → test z ≡ true → In e (z ∷ zs) × (test e ≡ true)
    one (inl q) p = (inl q, ap test (sym q) ∙ p)
    one (inr i) p = absurd i

    go : (t : Bool) → test z ≡ t → (In e (first_of test zs) → In e zs × (test e ≡ true)) → In e (z ∷ zs) × (test e ≡ true)
    go true p f = one (rw (first_of, p) at h) p
    go false p f = let r = f (rw (first_of, p) at h) in (inr r.0, r.1)

-- there is one at most
pub first-only : {X : Type 0} (test : X → Bool) (xs : List X) (a b : X) → In a (first_of test xs) → In b (first_of test xs) → a ≡ b
first-only test [] a b h k = absurd h
first-only test (z ∷ zs) a b h k = go (test z) refl (first-only test zs a b)
  where
    one : In a (z ∷ []) → In b (z ∷ []) → a ≡ b
    one (inl p) (inl q) = sym p ∙ q
    one (inr i) q = absurd i
    one p (inr i) = absurd i

    go : (t : Bool) → test z ≡ t → (In a (first_of test zs) → In b (first_of test zs) → a ≡ b) → a ≡ b
    go true p f = one (rw (first_of, p) at h) (rw (first_of, p) at k)
    go false p f = f (rw (first_of, p) at h) (rw (first_of, p) at k)

-- a block has one cond at most
pub owner-only : (c : Code) (b d e : ℕ) → In d (owner_of c b) → In e (owner_of c b) → d ≡ e
owner-only c b d e h k = go (slice_get c.owners b) h k
  where
    go : (o : Option (Option ℕ)) → In d (one_or_none o) → In e (one_or_none o) → d ≡ e
    go None h k = absurd h
    go (Some None) h k = absurd h
    go (Some (Some x)) (inl p) (inl q) = sym p ∙ q
    go (Some (Some x)) (inr i) q = absurd i
    go (Some (Some x)) p (inr i) = absurd i

-- one thread opens a block
pub opener-only : (c : Code) (b : ℕ) (m n : ThreadKind) → In m (opener_of c b) → In n (opener_of c b) → m ≡ n
opener-only c zero m n (inl p) (inl q) = sym p ∙ q
opener-only c zero m n (inr i) q = absurd i
opener-only c zero m n p (inr i) = absurd i
opener-only c (suc b) m n h k =
    let p = in-map (λ d. connector_into c d d (suc b)) m (owner_of c (suc b)) h in
    let q = in-map (λ d. connector_into c d d (suc b)) n (owner_of c (suc b)) k in
    sym p.2 ∙ (ap (λ d. connector_into c d d (suc b)) (owner-only c (suc b) p.0 q.0 p.1 q.1) ∙ q.2)

-- and one gives an `in` its word
pub poster-only : (c : Code) (x k : ℕ) (m n : ThreadKind) → In m (poster_of c x k) → In n (poster_of c x k) → m ≡ n
poster-only c x k m n h i =
    let p = in-flat_map (λ d. map (λ y. connector_into c y d (block_at c x)) (node_where c (is_switch d k))) m (owner_of c (block_at c x)) h in
    let q = in-flat_map (λ d. map (λ y. connector_into c y d (block_at c x)) (node_where c (is_switch d k))) n (owner_of c (block_at c x)) i in
    same p.0 q.0 (owner-only c (block_at c x) p.0 q.0 p.1 q.1) p.2 q.2
  where
    same : (d e : ℕ) → d ≡ e → In m (map (λ y. connector_into c y d (block_at c x)) (node_where c (is_switch d k)))
        → In n (map (λ y. connector_into c y e (block_at c x)) (node_where c (is_switch e k))) → m ≡ n
    same d e w a b =
        let p = in-map (λ y. connector_into c y d (block_at c x)) m (node_where c (is_switch d k)) a in
        let q = in-map (λ y. connector_into c y d (block_at c x)) n (node_where c (is_switch d k))
        (subst (λ z. In n (map (λ y. connector_into c y z (block_at c x)) (node_where c (is_switch z k)))) (sym w) b) in
        sym p.2 ∙ (ap (λ y. connector_into c y d (block_at c x)) (first-only (λ z. is_switch d k (kind_at c z)) (node_numbers c) p.0 q.0 p.1 q.1) ∙ q.2)

-- an `in` that is found in a block is one
pub enter-kind : (c : Code) (b k e : ℕ) → In e (node_in c b (is_enter k)) → takes_messages (kind_at c e) ≡ true → ⊥
enter-kind c b k e i h = kind (in-first (λ z. is_enter k (kind_at c z)) (nodes_in c b) e i).1 (kind_at c e) refl
  where
    kind : is_enter k (kind_at c e) ≡ true → (z : Kind) → kind_at c e ≡ z → ⊥
    kind p (Enter j) q = true≢false (sym h ∙ ap takes_messages q)
    kind p z q = true≢false (sym (rw q at p))

-- ---- what goes on

module _ (g : Graph) (all : Partitions) (s u : State) (others more : List (ℕ × ThreadKind)) (j : ℕ) where
  -- what an event keeps of activation j, words, blocks and runs
  pub record Goes : Type 0 where
    pub there : IsThere s.world j → IsThere u.world j
    pub code : IsThere s.world j → (activation_at u.world j).code ≡ (activation_at s.world j).code
    pub words : (y : ℕ) → has_word s.world j y ≡ true → has_word u.world j y ≡ true
    pub entered : (b : ℕ) → has_entered s.world j b ≡ true → has_entered u.world j b ≡ true
    pub runs : (b k : ℕ) → has_run s j b k ≡ true → has_run u j b k ≡ true
    pub others_stay : (n : ThreadKind) → In (j, n) others → In (j, n) more

  module _ (goes : Goes) where
    -- who ran
    ran-later : (ns : List ThreadKind) → OneRan g all s others j ns → OneRan g all u more j ns
    ran-later ns (n, i, r) = (n, i, goes.others_stay n r)

    -- what was posted
    pub posted-later : (c : Code) (x : ℕ) (k : Kind) → PostedAt g all s others c j x k → PostedAt g all u more c j x k
    posted-later c x (Enter k) h = ran-later (poster_of c x k) h
    posted-later c x (Param k) h = goes.words x h
    posted-later c x (Const k) h = goes.words x h
    posted-later c x (Operate o a b) h = goes.words x h
    posted-later c x (Seq a b) h = goes.words x h
    posted-later c x (Call d) h = goes.words x h
    posted-later c x (Arg f k a) h = goes.words x h
    posted-later c x (Ret f k) h = goes.words x h
    posted-later c x (Give k a) h = goes.words x h
    posted-later c x (Alloc n) h = goes.words x h
    posted-later c x (Fetch a i) h = goes.words x h
    posted-later c x (Store a i v) h = goes.words x h
    posted-later c x (Cond p y n) h = goes.words x h
    posted-later c x (Choose d k a) h = goes.words x h
    posted-later c x (Merge d k) h = goes.words x h
    posted-later c x (Leave k a) h = goes.words x h

    -- what was entered
    entered-later : (c : Code) (b k : ℕ) → HasEntered g all s others c j b k → HasEntered g all u more c j b k
    entered-later c b k (e, i, w) = (e, i, goes.words e w)

    -- what was chosen
    then-later : (c : Code) (k : Kind) → ChoseThen g all s others c j k → ChoseThen g all u more c j k
    then-later c (Cond p y n) h = goes.entered y h
    then-later c (Choose d k a) h = entered-later c (yes_of (kind_at c d)) k h
    then-later c k h = absurd h

    -- on the other side
    else-later : (c : Code) (k : Kind) → ChoseElse g all s others c j k → ChoseElse g all u more c j k
    else-later c (Cond p y n) h = goes.entered n h
    else-later c (Choose d k a) h = entered-later c (no_of (kind_at c d)) k h
    else-later c k h = absurd h

    -- reasons stay
    reason-later : (c : Code) (n : ThreadKind) (t : Source) → ReasonAt g all s others c j n t → ReasonAt g all u more c j n t
    reason-later c (Class b k) (Word_of x) h = posted-later c x (kind_at c x) h
    reason-later c (Class b k) (Behind d) h = goes.runs b d h
    reason-later c (Class b k) Opened h = ran-later (opener_of c b) h
    reason-later c (Class b k) Begun h = h
    reason-later c Entry t h = h
    reason-later c (Then_of x) t h = then-later c (kind_at c x) h
    reason-later c (Else_of x) t h = else-later c (kind_at c x) h

    -- and so do tickets
    pub given-later : (n : ThreadKind) (t : Source) → Given g all s others j n t → Given g all u more j n t
    given-later n t h =
        let e = sym (goes.code h.there) in
        record {
          there = goes.there h.there;
          thread = subst (λ c. IsThread (code_of g c) (parts_for all c) n) e h.thread;
          source = subst (λ c. In t (sources_of (code_of g c) (parts_for all c) n)) e h.source;
          reason = subst (λ c. ReasonAt g all u more (code_of g c) j n t) e (reason-later (its_code g s.world j) n t h.reason);
        }

-- ---- what is new where words come

module _ (g : Graph) (all : Partitions) (facts : CodeFacts g all) (s u : State) (others : List (ℕ × ThreadKind)) (New : ℕ → ℕ → Type 0) (j : ℕ)
    (l : IsThere s.world j) (known : (activation_at s.world j).code < length g.codes)
    (same : (activation_at u.world j).code ≡ (activation_at s.world j).code)
    (words : (y : ℕ) → has_word u.world j y ≡ true → (has_word s.world j y ≡ true) ⊎ (New j y × (takes_messages (kind_at (its_code g s.world j) y) ≡ true)))
    (entered : (b : ℕ) → has_entered u.world j b ≡ true → has_entered s.world j b ≡ true)
    (runs : (b k : ℕ) → has_run u j b k ≡ true → has_run s j b k ≡ true) where
  -- the code
  abbrev c : Code
  c = its_code g s.world j

  -- the ticket is of a new word
  abbrev pub IsNewWord : ThreadKind → Source → Type 0
  IsNewWord n t = (x : ℕ) × New j x × (takes_messages (kind_at c x) ≡ true) × (n ≡ inlet_thread c (parts_in g all s others j) x) × (t ≡ Word_of x)

  -- what was posted
  posted-back : (x : ℕ) (k : Kind) → PostedAt g all u others c j x k → PostedAt g all s others c j x k ⊎ (New j x × (takes_messages (kind_at c x) ≡ true))
  posted-back x (Enter k) h = inl h
  posted-back x (Param k) h = words x h
  posted-back x (Const k) h = words x h
  posted-back x (Operate o a b) h = words x h
  posted-back x (Seq a b) h = words x h
  posted-back x (Call d) h = words x h
  posted-back x (Arg f k a) h = words x h
  posted-back x (Ret f k) h = words x h
  posted-back x (Give k a) h = words x h
  posted-back x (Alloc n) h = words x h
  posted-back x (Fetch a i) h = words x h
  posted-back x (Store a i v) h = words x h
  posted-back x (Cond p y n) h = words x h
  posted-back x (Choose d k a) h = words x h
  posted-back x (Merge d k) h = words x h
  posted-back x (Leave k a) h = words x h

  -- what was entered
  entered-back : (b k : ℕ) → HasEntered g all u others c j b k → HasEntered g all s others c j b k
  entered-back b k (e, i, w) = elim (words e w) [ inl h ↦ (e, i, h) | inr n ↦ absurd (enter-kind c b k e i n.1) ]

  -- what was chosen
  then-back : (k : Kind) → ChoseThen g all u others c j k → ChoseThen g all s others c j k
  then-back (Cond p y n) h = entered y h
  then-back (Choose d k a) h = entered-back (yes_of (kind_at c d)) k h
  then-back k h = absurd h

  -- on the other side
  else-back : (k : Kind) → ChoseElse g all u others c j k → ChoseElse g all s others c j k
  else-back (Cond p y n) h = entered n h
  else-back (Choose d k a) h = entered-back (no_of (kind_at c d)) k h
  else-back k h = absurd h

  -- reasons
  reason-back : (n : ThreadKind) (t : Source) → IsThread c (parts_in g all s others j) n → In t (sources_of c (parts_in g all s others j) n)
      → ReasonAt g all u others c j n t → ReasonAt g all s others c j n t ⊎ IsNewWord n t
  reason-back (Class b k) (Word_of x) th i h = elim (posted-back x (kind_at c x) h) [
    | inl a ↦ inl a
    | inr q ↦ inr (x, q.0, q.1, sym ((facts.texts (activation_at s.world j).code known).source_inlet b k x th i).2, refl)
  ]
  reason-back (Class b k) (Behind d) th i h = inl (runs b d h)
  reason-back (Class b k) Opened th i h = inl h
  reason-back (Class b k) Begun th i h = inl h
  reason-back Entry t th i h = inl h
  reason-back (Then_of x) t th i h = inl (then-back (kind_at c x) h)
  reason-back (Else_of x) t th i h = inl (else-back (kind_at c x) h)

  -- tickets
  pub given-back : (n : ThreadKind) (t : Source) → Given g all u others j n t → Given g all s others j n t ⊎ IsNewWord n t
  given-back n t h =
      let th = subst (λ d. IsThread (code_of g d) (parts_for all d) n) same h.thread in
      let i = subst (λ d. In t (sources_of (code_of g d) (parts_for all d) n)) same h.source in
      elim (reason-back n t th i (subst (λ d. ReasonAt g all u others (code_of g d) j n t) same h.reason)) [
        | inl r ↦ inl (record { there = l; thread = th; source = i; reason = r })
        | inr q ↦ inr q
      ]

-- ---- what is new once thread 0 or a connector runs

module _ (g : Graph) (all : Partitions) (facts : CodeFacts g all) (s : State) (others : List (ℕ × ThreadKind)) (i : ℕ) (l : IsThere s.world i)
    (known : (activation_at s.world i).code < length g.codes) (n : ThreadKind)
    (thread : IsThread (its_code g s.world i) (parts_in g all s others i) n) (other : IsOther n) where
  -- the code and its partitions
  abbrev d : Code
  d = its_code g s.world i

  -- the code's facts
  text : TextFacts g (its_code g s.world i) (parts_in g all s others i) (code_text (plain (compiled_with g all)) (activation_at s.world i).code)
  text = facts.texts (activation_at s.world i).code known

  -- the ticket is one of its forks'
  abbrev pub IsForked : ℕ → ThreadKind → Source → Type 0
  IsForked j o t = (i ≡ j) × In (record { thread = o; source = t }) (fork_tickets d (parts_in g all s others i) n)

  -- who ran
  ran-back : (j : ℕ) (ns : List ThreadKind) → OneRan g all s ((i, n) ∷ others) j ns → OneRan g all s others j ns ⊎ ((i ≡ j) × In n ns)
  ran-back j ns (m, h, inl e) = inr (ap (λ (z : ℕ × ThreadKind). z.0) e, subst (λ z. In z ns) (sym (ap (λ (z : ℕ × ThreadKind). z.1) e)) h)
  ran-back j ns (m, h, inr r) = inl (m, h, r)

  -- of activation i
  here-back : (o : ThreadKind) (t : Source) → Given g all s ((i, n) ∷ others) i o t → Given g all s others i o t ⊎ IsForked i o t
  here-back o t h = elim (go o t h.thread h.source h.reason) [
    | inl r ↦ inl (record { there = h.there; thread = h.thread; source = h.source; reason = r })
    | inr q ↦ inr q
  ]
    where
      posted : (b k x : ℕ) → IsThread d (parts_in g all s others i) (Class b k) → In (Word_of x) (sources_of d (parts_in g all s others i) (Class b k))
          → (z : Kind) → kind_at d x ≡ z → PostedAt g all s ((i, n) ∷ others) d i x z
          → PostedAt g all s others d i x z ⊎ IsForked i (Class b k) (Word_of x)
      posted b k x th h (Enter e) p q = elim (ran-back i (poster_of d x e) q) [
        | inl a ↦ inl a
        | inr r ↦ (let f = text.source_inlet b k x th h in
            inr (
              refl,
              subst (λ (z : ThreadKind). In (record { thread = z; source = Word_of x }) (fork_tickets d (parts_in g all s others i) n)) f.2
                  (text.posted_fork n x e thread f.0 p r.1),
            ))
      ]
      posted b k x th h (Param e) p q = inl q
      posted b k x th h (Const e) p q = inl q
      posted b k x th h (Operate o y z) p q = inl q
      posted b k x th h (Seq y z) p q = inl q
      posted b k x th h (Call e) p q = inl q
      posted b k x th h (Arg f y z) p q = inl q
      posted b k x th h (Ret f e) p q = inl q
      posted b k x th h (Give e y) p q = inl q
      posted b k x th h (Alloc e) p q = inl q
      posted b k x th h (Fetch y z) p q = inl q
      posted b k x th h (Store y z w) p q = inl q
      posted b k x th h (Cond y z w) p q = inl q
      posted b k x th h (Choose y z w) p q = inl q
      posted b k x th h (Merge y z) p q = inl q
      posted b k x th h (Leave y z) p q = inl q

      then-same : (z : Kind) → ChoseThen g all s ((i, n) ∷ others) d i z → ChoseThen g all s others d i z
      then-same (Cond p y w) h = h
      then-same (Choose e k a) h = h
      then-same z h = absurd h

      else-same : (z : Kind) → ChoseElse g all s ((i, n) ∷ others) d i z → ChoseElse g all s others d i z
      else-same (Cond p y w) h = h
      else-same (Choose e k a) h = h
      else-same z h = absurd h

      go : (o : ThreadKind) (t : Source) → IsThread d (parts_in g all s others i) o → In t (sources_of d (parts_in g all s others i) o)
          → ReasonAt g all s ((i, n) ∷ others) d i o t → ReasonAt g all s others d i o t ⊎ IsForked i o t
      go (Class b k) (Word_of x) th h r = posted b k x th h (kind_at d x) refl r
      go (Class b k) (Behind e) th h r = inl r
      go (Class b k) Opened th h r = elim (ran-back i (opener_of d b) r) [
        | inl a ↦ inl a
        | inr q ↦ inr (refl, text.opened_fork n b k thread th h q.1)
      ]
      go (Class b k) Begun th h r = inl r
      go Entry t th h r = inl r
      go (Then_of x) t th h r = inl (then-same (kind_at d x) r)
      go (Else_of x) t th h r = inl (else-same (kind_at d x) r)

  -- of other activations nothing is new
  others-apart : (j : ℕ) → (i ≡ j → ⊥) → (o : ThreadKind) → In (j, o) ((i, n) ∷ others) → In (j, o) others
  others-apart j e o (inl q) = absurd (e (ap (λ (z : ℕ × ThreadKind). z.0) q))
  others-apart j e o (inr q) = q

  -- each ticket that a fork of it spends is given
  pub forked-given : (k : Ticket) → In k (fork_tickets d (parts_in g all s others i) n) → Given g all s ((i, n) ∷ others) i k.thread k.source
  forked-given k h =
      let f = text.fork_there n k thread h in
      record {
        there = l;
        thread = f.0;
        source = f.1;
        reason = elim (text.fork_for n k thread other h) [
          | inl (b, (e, (p, q))) ↦ subst (λ (z : Ticket). ReasonAt g all s ((i, n) ∷ others) d i z.thread z.source) (sym p) (n, q, inl refl)
          | inr (x, (e, (p, q, r, w))) ↦ subst (λ (z : Ticket). ReasonAt g all s ((i, n) ∷ others) d i z.thread z.source) (sym p)
              (subst (λ z. PostedAt g all s ((i, n) ∷ others) d i x z) (sym q) (n, r, inl refl))
        ];
      }

  -- and wasn't before, where the thread hasn't run
  pub forked-new : (In (i, n) others → ⊥) → (k : Ticket) → In k (fork_tickets d (parts_in g all s others i) n) → Given g all s others i k.thread k.source → ⊥
  forked-new fresh k h given = elim (text.fork_for n k thread other h) [
    | inl (b, (e, (p, q))) ↦
        opened b (subst (λ (z : Ticket). ReasonAt g all s others d i z.thread z.source) p given.reason) q
    | inr (x, (e, (p, q, r, w))) ↦
        posted x e (subst (λ z. PostedAt g all s others d i x z) q (subst (λ (z : Ticket). ReasonAt g all s others d i z.thread z.source) p given.reason)) r
  ]
    where
      opened : (b : ℕ) → OneRan g all s others i (opener_of d b) → In n (opener_of d b) → ⊥
      opened b (m, a, r) q = fresh (subst (λ z. In (i, z) others) (opener-only d b m n a q) r)

      posted : (x e : ℕ) → OneRan g all s others i (poster_of d x e) → In n (poster_of d x e) → ⊥
      posted x e (m, a, r) q = fresh (subst (λ z. In (i, z) others) (poster-only d x e m n a q) r)

  -- tickets of other activations were given before
  pub given-apart : (j : ℕ) → (i ≡ j → ⊥) → (o : ThreadKind) (t : Source) → Given g all s ((i, n) ∷ others) j o t → Given g all s others j o t
  given-apart j e = given-later g all s s ((i, n) ∷ others) others j (record {
    there = λ h. h;
    code = λ h. refl;
    words = λ y h. h;
    entered = λ b h. h;
    runs = λ b k h. h;
    others_stay = others-apart j e;
  })

  -- and those before are given
  pub given-still : (j : ℕ) (o : ThreadKind) (t : Source) → Given g all s others j o t → Given g all s ((i, n) ∷ others) j o t
  given-still j = given-later g all s s others ((i, n) ∷ others) j (record {
    there = λ h. h;
    code = λ h. refl;
    words = λ y h. h;
    entered = λ b h. h;
    runs = λ b k h. h;
    others_stay = λ o h. inr h;
  })

  -- so each ticket was given or is one of the forks'
  pub given-forked : (j : ℕ) (o : ThreadKind) (t : Source) → Given g all s ((i, n) ∷ others) j o t → Given g all s others j o t ⊎ IsForked j o t
  given-forked j o t h = elim (same-or-other i j) [
    | inr d ↦ inl (given-apart j d o t h)
    | inl e ↦ subst (λ j. Given g all s ((i, n) ∷ others) j o t → Given g all s others j o t ⊎ IsForked j o t) e (here-back o t) h
  ]
