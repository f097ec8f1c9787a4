-- The event at a poll: the run of thread code and the host make the same, and both go on or end alike.
use Rattle.std.proofs.Common.{◌≡◌, ◌≢◌, ℕ, zero, suc, ◌+◌, ◌*◌, ◌^◌, ◌<◌, ◌≤◌, List, [], ◌∷◌, ◌++◌, length, refl, sym, ap, ◌∙◌, arith, true, false}
use Rattle.std.proofs.Common.{Bool, ◌==◌, true≢false, subst, Option, Some, None, slice_get, nat_lt}
use Rattle.std.specs.Prelude.{slice_set, slice_index}
use Rattle.tam_word.specs.Lists.{has, any_of, without_place}
use Rattle.tam_word.proofs.Tests.{number-differs}
use Rattle.tam_word.proofs.Members.{get-in}
use Rattle.tam_msgs.specs.declared.limits.Limits.{Limits}
use Rattle.tam_msgs.specs.declared.message.Message.{Message}
use Rattle.tam_msgs.specs.declared.message.Message.TheVariants.{Word as Carry, Frame as Begin, Cells as Make, Fetch as Ask_cell, Store as Put_cell}
use Rattle.tam_msgs.specs.declared.item.Item.{Item}
use Rattle.tam_msgs.specs.declared.item.Item.TheVariants.{Ready, Place}
use Rattle.tam_msgs.specs.declared.choice.Choice.{Choice}
use Rattle.tam_msgs.specs.declared.choice.Choice.TheVariants.{Quiet as Choose_quiet, Run as Choose_run, Deliver as Choose_delivery}
use Rattle.tam_msgs.specs.Messages.{outside, answers}
use Rattle.tam_msgs.specs.Runs.{choice, WildCause, Wild_frame, Wild_inlet, Wild_array, Wild_place, End, Frames_full, Cells_full, Budget_spent, Wild}
use Rattle.tam_msgs.specs.Runs.{Outcome, Next, Ended}
use Rattle.tam_word.specs.Words.{wrapped}
use Rattle.tam_istr.specs.Cells.{Arrays, Access, Now, Deferred, Stored, Twice, NotBelow, NoArray, with_array, cells_used, fetched_from, stored_into}
use Rattle.frame_tables.specs.FrameTables.{Frame, FrameTable, or_frame, frame_at, is_live, live_count, is_ready, next_thread, next_number}
use Rattle.frame_tables.specs.FrameTables.{next_number_of, spent, count_in}
use Rattle.tl0_code.specs.declared.inlet.Inlet.{Inlet}
use Rattle.tl0_code.specs.ThreadCode.{Program, code_text, thread_at}
use Rattle.tl0_code.specs.Machines.{Machine, Giving, Progress, Fine, Broken, put, done_thread, with_message, spend, spend_of, then_do}
use Rattle.tl0_code.specs.ThreadRuns.{text_at, as_outcome, run_taken, printed_outside, word_into, with_frame, begin_for, accessed, delivered}
use Rattle.tl0_code.specs.ThreadRuns.{delivered_at, counted, chosen}
use Rattle.rv_inst.specs.Harts.{reg}
use Rattle.rv_keep.specs.KernelPlaces.{poll_at}
use Rattle.rv_keep.specs.Hosts.{Host, with_hart}
use Rattle.rv_keep.specs.HostRuns.{with_regs, done_here, printed_outside as host_printed, accessed as host_accessed, with_frame as host_frame}
use Rattle.rv_keep.specs.HostRuns.{delivered as host_delivered}
use Rattle.rv_keep.specs.HostRuns.{delivered_at as host_delivered_at, counted as host_counted, chosen as host_chosen}
use Rattle.rv_keep.specs.FrameBytes.{BaseKept}
use Rattle.rv_keep.specs.Bounds.{host_bound, word_bound, frame_bound, run_bound, thread_bound, message_bound, choice_bound}
use Rattle.rv_keep.specs.MachineLaws.{MayRun, Same, IsTame}
use Rattle.rv_keep.specs.Relation.{Related}
use Rattle.rv_keep.specs.PhaseLaws.{RelatedAt, ComesTo}
use Rattle.rv_keep.proofs.Registers.{set-same, set-other, set-length, base-joined, base-set, base-kept}
use Rattle.rv_keep.proofs.Opening.{plain_image}
use Rattle.rv_keep.proofs.Taking.{held, count-held, held-most}
use Rattle.rv_keep.proofs.BegunRelated.{NewIn, new-in, new_table}
use Rattle.rv_keep.proofs.Keeping.{fine-same}
use Rattle.rv_keep.proofs.Values.{IsWords, AccessIs, fetch-is, store-is, sent-more, sent-fewer, answers-are, Valued, with-array-cells, with-array-many}
use Rattle.rv_keep.proofs.Rests.{Rests, spent-rests, slot-rests, NextIs, next-is}
use Rattle.rv_keep.proofs.Going.{Phases, Going, with_books, host_books, related-books, here-goes, valued-table, valued-more, spend-machine}
use Rattle.rv_keep.proofs.Going.{spend-valued, run-goes}

-- both go on, related at the next poll, or both end alike
abbrev pub AgreeOn : ℕ → Program → Limits → Outcome Machine → Outcome Host → Type 0
AgreeOn most p limits (Next m) (Next s) = Going most p limits m s
AgreeOn most p limits (Ended how m) (Ended end s) = (end ≡ how) × Same m s
AgreeOn most p limits _ _ = ⊥

-- a run that isn't wild isn't wild
untame : (what : WildCause) (n : ℕ) (m : Machine) → IsTame (Ended (Wild what n) m) → ⊥
untame what n m h = h what n refl

-- a test that both make
either-agrees : (most : ℕ) (p : Program) (limits : Limits) (a b : Bool) (x y : Outcome Machine) (u v : Outcome Host) → b ≡ a
    → IsTame (elim a [ true ↦ x | false ↦ y ])
    → (a ≡ true → IsTame x → AgreeOn most p limits x u) → (a ≡ false → IsTame y → AgreeOn most p limits y v)
    → AgreeOn most p limits (elim a [ true ↦ x | false ↦ y ]) (elim b [ true ↦ u | false ↦ v ])
either-agrees most p limits true true x y u v e h f g = f refl h
either-agrees most p limits true false x y u v e h f g = absurd (true≢false (sym e))
either-agrees most p limits false true x y u v e h f g = absurd (true≢false e)
either-agrees most p limits false false x y u v e h f g = g refl h

-- ---- the host with the state's books

-- the host where all that the state has too is the state's
abbrev pub booked : Machine → Host → Host
booked m s = record s { pending = m.pending; arrays = m.arrays; printed = m.printed; events = m.events; order = m.order }

-- it is the host
pub booked-is : (m : Machine) (s : Host) → Same m s → s ≡ booked m s
booked-is m s e =
    ap (λ (x : List Message). record s { pending = x }) e.pending
    ∙ (ap (λ (x : Arrays). record s { pending = m.pending; arrays = x }) e.arrays
    ∙ (ap (λ (x : List (ℕ × ℕ)). record s { pending = m.pending; arrays = m.arrays; printed = x }) e.printed
    ∙ (ap (λ (x : ℕ). record s { pending = m.pending; arrays = m.arrays; printed = m.printed; events = x }) e.events
    ∙ ap (λ (x : List Item). record s { pending = m.pending; arrays = m.arrays; printed = m.printed; events = m.events; order = x }) e.order)))

-- what holds at the delivery of a message
record AtDelivery (p : Program) (args : List ℕ) (limits : Limits) (m : Machine) (s : Host) : Type 0 where
  pub may : MayRun p args limits
  pub related : RelatedAt 80 p limits m (booked m s)
  pub valued : Valued p limits m
  pub rests : Rests m.table
  pub room : length m.arrays < m.events

-- ---- accesses

-- what comes of an access
accessed-agrees : (p : Program) (args : List ℕ) (limits : Limits) (m : Machine) (s : Host) (site a i w : ℕ) (reader : ℕ × ℕ) → AtDelivery p args limits m s
    → w < 2 ^ 32 → (x : Access) → AccessIs (length m.arrays) x → IsTame (accessed m site a i reader w x)
    → AgreeOn (s.hart.steps + host_bound) p limits (accessed m site a i reader w x) (host_accessed (booked m s) site a i reader w x)
accessed-agrees p args limits m s site a i w reader d l (Now u) k h =
    let v : Valued p limits (with_message m (Carry reader.0 reader.1 u)) = valued-more p limits m (Carry reader.0 reader.1 u) d.valued k in
    here-goes p args limits m (booked m s) (m.pending ++ Carry reader.0 reader.1 u ∷ []) m.arrays m.order m.printed m.events d.may d.related v d.rests
accessed-agrees p args limits m s site a i w reader d l (Deferred arrays) k h =
    let few : length m.arrays < m.events = d.room in
    let many : length arrays ≡ length m.arrays = k.1 in
    let v : Valued p limits (record m { arrays = arrays }) =
    record { sent = d.valued.sent; cells = k.0; few_arrays = omega arith; in_budget = d.valued.in_budget } in
    here-goes p args limits m (booked m s) m.pending arrays m.order m.printed m.events d.may d.related v d.rests
accessed-agrees p args limits m s site a i w reader d l (Stored arrays readers) k h =
    let few : length m.arrays < m.events = d.room in
    let many : length arrays ≡ length m.arrays = k.1 in
    let v : Valued p limits (record m { arrays = arrays; pending = m.pending ++ answers w readers }) = record {
      sent = answers-are p w readers m.pending d.valued.sent l;
      cells = k.0;
      few_arrays = omega arith;
      in_budget = d.valued.in_budget;
    } in
    here-goes p args limits m (booked m s) (m.pending ++ answers w readers) arrays m.order m.printed m.events d.may d.related v d.rests
accessed-agrees p args limits m s site a i w reader d l (Twice first) k h = (refl, d.related.related.same)
accessed-agrees p args limits m s site a i w reader d l (NotBelow n) k h = (refl, d.related.related.same)
accessed-agrees p args limits m s site a i w reader d l NoArray k h = absurd (untame Wild_array a m h)

-- ---- words

-- a word that goes outside
outside-agrees : (p : Program) (args : List ℕ) (limits : Limits) (m : Machine) (s : Host) (k w : ℕ) → AtDelivery p args limits m s
    → IsTame (printed_outside p m k w) → AgreeOn (s.hart.steps + host_bound) p limits (printed_outside p m k w) (host_printed (plain_image p) (booked m s) k w)
outside-agrees p args limits m s k w d h =
    let test : ℕ × ℕ → Bool = λ kw. kw.0 == k in
    let none : Outcome Machine = Ended (Wild Wild_place k) m in
    let host_none : Outcome Host = Ended (Wild Wild_place k) (booked m s) in
    let one : Outcome Machine = Next (record m { printed = m.printed ++ (k, w) ∷ [] }) in
    let host_one : Outcome Host = done_here (record (booked m s) { printed = m.printed ++ (k, w) ∷ [] }) in
    let v : Valued p limits (record m { printed = m.printed ++ (k, w) ∷ [] }) =
    record { sent = d.valued.sent; cells = d.valued.cells; few_arrays = d.valued.few_arrays; in_budget = d.valued.in_budget } in
    either-agrees (s.hart.steps + host_bound) p limits (nat_lt k (code_text p p.main).results) (nat_lt k (code_text p p.main).results)
    (elim (any_of test m.printed) [ true ↦ none | false ↦ one ]) none (elim (any_of test m.printed) [ true ↦ host_none | false ↦ host_one ]) host_none refl h
    (λ q t. either-agrees (s.hart.steps + host_bound) p limits (any_of test m.printed) (any_of test m.printed) none one host_none host_one refl t
    (λ y u. absurd (untame Wild_place k m u))
    (λ y u. here-goes p args limits m (booked m s) m.pending m.arrays m.order (m.printed ++ (k, w) ∷ []) m.events d.may d.related v d.rests))
    (λ q t. absurd (untame Wild_place k m t))

-- the registers of a word
abbrev worded : List ℕ → ℕ → ℕ → ℕ → List ℕ
worded regs f i w = slice_set (slice_set (slice_set (slice_set regs 10 2) 11 f) 12 i) 13 w

-- what they are
record Worded (regs : List ℕ) (f i w : ℕ) : Type 0 where
  pub kept : BaseKept regs (worded regs f i w)
  pub delivers : slice_index (worded regs f i w) 10 ≡ 2
  pub frame_is : slice_index (worded regs f i w) 11 ≡ f
  pub inlet_is : slice_index (worded regs f i w) 12 ≡ i
  pub word_is : slice_index (worded regs f i w) 13 ≡ w

-- they are
worded-is : (regs : List ℕ) (f i w : ℕ) → length regs ≡ 32 → Worded regs f i w
worded-is regs f i w l =
    let a : List ℕ = slice_set regs 10 2 in
    let b : List ℕ = slice_set a 11 f in
    let g : List ℕ = slice_set b 12 i in
    let la : length a ≡ length regs = set-length regs 10 2 in
    let lb : length b ≡ length a = set-length a 11 f in
    let lg : length g ≡ length b = set-length b 12 i in
    record {
      kept = base-joined regs a (slice_set g 13 w) (base-set regs 10 2 refl)
          (base-joined a b (slice_set g 13 w) (base-set a 11 f refl) (base-joined b g (slice_set g 13 w) (base-set b 12 i refl) (base-set g 13 w refl)));
      delivers = set-other g 13 10 w (omega arith)
          ∙ (set-other b 12 10 i (omega arith) ∙ (set-other a 11 10 f (omega arith) ∙ set-same regs 10 2 (omega arith)));
      frame_is = set-other g 13 11 w (omega arith) ∙ (set-other b 12 11 i (omega arith) ∙ set-same a 11 f (omega arith));
      inlet_is = set-other g 13 12 w (omega arith) ∙ set-same b 12 i (omega arith);
      word_is = set-same g 13 w (omega arith);
    }

-- a word for a live frame
frame-agrees : Phases → (p : Program) (args : List ℕ) (limits : Limits) (m : Machine) (s : Host) (f i w : ℕ) → AtDelivery p args limits m s → w < 2 ^ 32
    → IsTame (word_into m f i w (slice_get (text_at p m f).inlets i))
    → AgreeOn (s.hart.steps + word_bound) p limits (word_into m f i w (slice_get (text_at p m f).inlets i))
    (Next (with_hart (booked m s) (with_regs s.hart ((10, 2) ∷ (11, f) ∷ (12, i) ∷ (13, w) ∷ []))))
frame-agrees ph p args limits m s f i w d l h = go (slice_get (text_at p m f).inlets i) refl h
  where
    spends : (inlet : Inlet) → slice_get (text_at p m f).inlets i ≡ Some inlet → (g : Progress) → spend (put m f inlet.slot w) f inlet.thread ≡ g
        → IsTame (as_outcome g m)
        → AgreeOn (s.hart.steps + word_bound) p limits (as_outcome g m)
        (Next (with_hart (booked m s) (with_regs s.hart ((10, 2) ∷ (11, f) ∷ (12, i) ∷ (13, w) ∷ []))))
    spends inlet e (Broken what n) q t = absurd (untame what n m t)
    spends inlet e (Fine n) q t =
        let wd : Worded s.hart.regs f i w = worded-is s.hart.regs f i w d.related.related.registers in
        let s1 : Host = host_books (booked m s) (worded s.hart.regs f i w) m.pending m.arrays m.order m.printed m.events in
        let rel : RelatedAt 80 p limits m s1 = record {
          related = related-books p limits m (booked m s) (worded s.hart.regs f i w) m.pending m.arrays m.order m.printed m.events d.related.related wd.kept;
          at = d.related.at;
        } in
        let c : ComesTo 34 poll_at p limits s1 n =
        ph.words p args limits m n s1 f i w inlet d.may rel wd.delivers wd.frame_is wd.inlet_is wd.word_is l e q in
        let v : Valued p limits n =
        spend-valued p limits (put m f inlet.slot w) n f inlet.thread (valued-table p limits m (put m f inlet.slot w).table d.valued) q in
        let k : record (put m f inlet.slot w) { table = spent (put m f inlet.slot w).table f inlet.thread } ≡ n =
        spend-machine (put m f inlet.slot w) n f inlet.thread (slice_get (frame_at (put m f inlet.slot w).table f).counts inlet.thread) q in
        let rs : Rests (spent (put m f inlet.slot w).table f inlet.thread) =
        spent-rests (put m f inlet.slot w).table f inlet.thread (count_in (put m f inlet.slot w).table f inlet.thread)
        (slot-rests m.table f inlet.slot w d.rests) in
        record { valued = v; rests = subst (λ (x : Machine). Rests x.table) k rs; steps = 34; few = omega arith; comes = c }

    go : (o : Option Inlet) → slice_get (text_at p m f).inlets i ≡ o → IsTame (word_into m f i w o)
        → AgreeOn (s.hart.steps + word_bound) p limits (word_into m f i w o)
        (Next (with_hart (booked m s) (with_regs s.hart ((10, 2) ∷ (11, f) ∷ (12, i) ∷ (13, w) ∷ []))))
    go None e t = absurd (untame Wild_inlet i m t)
    go (Some inlet) e t = spends inlet e (spend (put m f inlet.slot w) f inlet.thread) refl t

-- ---- frames

-- what is left where a frame was begun and its number sent
begun-machine : (k n : Machine) (g t : ℕ) (x : Message) (o : Option ℕ) → then_do (spend_of k g t o) (λ q. Fine (with_message q x)) ≡ Fine n
    → with_message (record k { table = spent k.table g t }) x ≡ n
begun-machine k n g t x None e = absurd cc
begun-machine k n g t x (Some zero) e = absurd cc
begun-machine k n g t x (Some (suc j)) e = fine-same (with_message (record k { table = spent k.table g t }) x) n e

-- the turns with a new frame
new-rests : (p : Program) (limits : Limits) (m : Machine) (s : Host) (c w0 w1 : ℕ) → Related p limits m s → Rests m.table → NewIn p limits m s c w0 w1
    → Rests (new_table p m c w0 w1)
new-rests p limits m s c w0 w1 e r k g q z =
    let a : m.table.current ≡ Some g = sym k.current_is ∙ q in
    let v : is_live m.table g ≡ true = e.turns.current_live g a in
    let n : next_number m.table ≢ g = λ y. true≢false (sym v ∙ (sym (ap (λ (x : ℕ). is_live m.table x) y) ∙ k.dead)) in
    r g a (sym (ap (λ (x : Option (Option Frame)). (or_frame x).ready) (k.took.others g n)) ∙ z)

-- a frame that is asked for
begin-agrees : Phases → (p : Program) (args : List ℕ) (limits : Limits) (m : Machine) (s : Host) (c f i : ℕ) → AtDelivery p args limits m s
    → IsWords p (Begin c f i) → live_count m.table ≢ limits.frames → (g : Progress) → begin_for p m c f i ≡ g → IsTame (as_outcome g m)
    → AgreeOn (s.hart.steps + frame_bound (code_text p c)) p limits (as_outcome g m)
    (Next (host_frame (booked m s) (next_number_of s.free (length s.live + length s.free)) c f i))
begin-agrees ph p args limits m s c f i d w ne (Broken what n) q t = absurd (untame what n m t)
begin-agrees ph p args limits m s c f i d w ne (Fine n) q t =
    let ch : live_count m.table ≡ held m.table.frames = count-held m.table.frames in
    let hm : held m.table.frames ≤ length m.table.frames = held-most m.table.frames in
    let fw : length m.table.frames ≤ limits.frames = d.related.related.few in
    let lv : live_count m.table < limits.frames = omega arith in
    let wl : wrapped (i + 1) < 2 ^ 32 = omega arith in
    let ni : NewIn p limits m (booked m s) c f (wrapped (i + 1)) =
    new-in p args limits m (booked m s) c f (wrapped (i + 1)) d.may d.related.related w.0 w.1 wl lv in
    let cm = ph.frames p args limits m n (booked m s) c f i d.may d.related w.0 w.1 w.2 lv q in
    let k : Machine = with_frame p m c f (wrapped (i + 1)) in
    let num : ℕ = next_number m.table in
    let e : with_message (record k { table = spent k.table num 0 }) (Carry f i num) ≡ n =
    begun-machine k n num 0 (Carry f i num) (slice_get (frame_at k.table num).counts 0) q in
    let v0 : Valued p limits (record k { table = spent k.table num 0 }) =
    record { sent = d.valued.sent; cells = d.valued.cells; few_arrays = d.valued.few_arrays; in_budget = d.valued.in_budget } in
    let v : Valued p limits (with_message (record k { table = spent k.table num 0 }) (Carry f i num)) =
    valued-more p limits (record k { table = spent k.table num 0 }) (Carry f i num) v0 ni.room.number_small in
    let rs : Rests (spent k.table num 0) =
    spent-rests k.table num 0 (count_in k.table num 0) (new-rests p limits m (booked m s) c f (wrapped (i + 1)) d.related.related d.rests ni) in
    record {
      valued = subst (λ (x : Machine). Valued p limits x) e v;
      rests = subst (λ (x : Machine). Rests x.table) e rs;
      steps = 38 + 6 * length (code_text p c).threads + 4 * (code_text p c).slots;
      few = omega arith;
      comes = cm;
    }

-- ---- deliveries

-- the bound of a word that goes outside, and of one that doesn't
outside-bound : (p : Program) (f i w : ℕ) → (f == outside) ≡ true → message_bound p (Some (Carry f i w)) ≡ host_bound
outside-bound p f i w q = go (f == outside) q
  where
    go : (b : Bool) → b ≡ true → ◌≡◌ {A = ℕ} (elim b [ true ↦ host_bound | false ↦ word_bound ]) host_bound
    go true k = refl
    go false k = absurd (true≢false (sym k))

frame-bound : (p : Program) (f i w : ℕ) → (f == outside) ≡ false → message_bound p (Some (Carry f i w)) ≡ word_bound
frame-bound p f i w q = go (f == outside) q
  where
    go : (b : Bool) → b ≡ false → ◌≡◌ {A = ℕ} (elim b [ true ↦ host_bound | false ↦ word_bound ]) word_bound
    go true k = absurd (true≢false k)
    go false k = refl

-- the delivery of a message
delivered-agrees : Phases → (p : Program) (args : List ℕ) (limits : Limits) (m : Machine) (s : Host) → AtDelivery p args limits m s → (x : Message)
    → IsWords p x
    → IsTame (delivered Giving p limits m x)
    → AgreeOn (s.hart.steps + message_bound p (Some x)) p limits (delivered Giving p limits m x) (host_delivered (plain_image p) limits (booked m s) x)
delivered-agrees ph p args limits m s d (Carry f i w) k h =
    let into : Outcome Machine = word_into m f i w (slice_get (text_at p m f).inlets i) in
    let gone_host : Outcome Host = Ended (Wild Wild_frame f) (booked m s) in
    let told : Outcome Host = Next (with_hart (booked m s) (with_regs s.hart ((10, 2) ∷ (11, f) ∷ (12, i) ∷ (13, w) ∷ []))) in
    either-agrees (s.hart.steps + message_bound p (Some (Carry f i w))) p limits (f == outside) (f == outside) (printed_outside p m i w)
    (elim (is_live m.table f) [ true ↦ into | false ↦ Ended (Wild Wild_frame f) m ])
    (host_printed (plain_image p) (booked m s) i w) (elim (has s.live f) [ true ↦ told | false ↦ gone_host ]) refl h
    (λ q t. subst (λ (y : ℕ). AgreeOn (s.hart.steps + y) p limits (printed_outside p m i w) (host_printed (plain_image p) (booked m s) i w))
    (sym (outside-bound p f i w q))
    (outside-agrees p args limits m s i w d t))
    (λ q t. subst (λ (y : ℕ). AgreeOn (s.hart.steps + y) p limits (elim (is_live m.table f) [ true ↦ into | false ↦ Ended (Wild Wild_frame f) m ])
    (elim (has s.live f) [ true ↦ told | false ↦ gone_host ])) (sym (frame-bound p f i w q))
    (either-agrees (s.hart.steps + word_bound) p limits (is_live m.table f) (has s.live f) into (Ended (Wild Wild_frame f) m) told gone_host
    (d.related.related.same.live f) t
    (λ y u. frame-agrees ph p args limits m s f i w d k u) (λ y u. absurd (untame Wild_frame f m u))))
delivered-agrees ph p args limits m s d (Begin c f i) k h =
    let host_next : Outcome Host = Next (host_frame (booked m s) (next_number_of s.free (length s.live + length s.free)) c f i) in
    either-agrees (s.hart.steps + frame_bound (code_text p c)) p limits (live_count m.table == limits.frames) (length s.live == limits.frames)
    (Ended (Frames_full limits.frames) m)
    (as_outcome (begin_for p m c f i) m) (Ended (Frames_full limits.frames) (booked m s)) host_next
    (ap (λ (x : ℕ). x == limits.frames) d.related.related.same.as_many) h
    (λ q t. (refl, d.related.related.same))
    (λ q t. begin-agrees ph p args limits m s c f i d k (number-differs (live_count m.table) limits.frames q) (begin_for p m c f i) refl t)
delivered-agrees ph p args limits m s d (Make n f i) k h =
    let full : End = Cells_full (cells_used m.arrays) n in
    let x : Message = Carry f i (length m.arrays) in
    let m1 : Machine = with_message (record m { arrays = with_array m.arrays n }) x in
    let s1 : Host = record (booked m s) { arrays = with_array m.arrays n; pending = m.pending ++ x ∷ [] } in
    let few : length m.arrays < m.events = d.room in
    let more : length (with_array m.arrays n) ≡ length m.arrays + 1 = with-array-many m.arrays n in
    let eb : m.events ≤ limits.budget = d.valued.in_budget in
    let bl : limits.budget < 2 ^ 32 = d.may.in_range.budget in
    let v : Valued p limits m1 = record {
      sent = sent-more p m.pending x d.valued.sent (omega arith);
      cells = with-array-cells m.arrays n d.valued.cells;
      few_arrays = omega arith;
      in_budget = d.valued.in_budget;
    } in
    either-agrees (s.hart.steps + host_bound) p limits (nat_lt limits.cells (cells_used m.arrays + n)) (nat_lt limits.cells (cells_used m.arrays + n))
    (Ended full m) (Next m1)
    (Ended full (booked m s)) (done_here s1) refl h (λ q t. (refl, d.related.related.same))
    (λ q t. here-goes p args limits m (booked m s) (m.pending ++ x ∷ []) (with_array m.arrays n) m.order m.printed m.events d.may d.related v d.rests)
delivered-agrees ph p args limits m s d (Ask_cell a i f x site) k h =
    accessed-agrees p args limits m s site a i 0 (f, x) d (omega arith) (fetched_from m.arrays a i (f, x)) (fetch-is m.arrays a i (f, x) d.valued.cells) h
delivered-agrees ph p args limits m s d (Put_cell a i w site) k h =
    accessed-agrees p args limits m s site a i w (0, 0) d k (stored_into m.arrays a i w site) (store-is m.arrays a i w site d.valued.cells k) h

-- ---- events

-- what holds at a poll, where the host's books are the state's
pub record AtPoll (p : Program) (args : List ℕ) (limits : Limits) (m : Machine) (s : Host) : Type 0 where
  pub may : MayRun p args limits
  pub related : RelatedAt 80 p limits m (booked m s)
  pub valued : Valued p limits m
  pub rests : Rests m.table

-- the run of a thread
run-agrees : Phases → (p : Program) (args : List ℕ) (limits : Limits) (m : Machine) (s : Host) (rest : List Item) → AtPoll p args limits m s
    → is_ready m.table ≡ true
    → m.events < limits.budget → IsTame (run_taken Giving p (counted m rest) (next_thread m.table))
    → AgreeOn (s.hart.steps + thread_bound p m (next_thread m.table)) p limits (run_taken Giving p (counted m rest) (next_thread m.table))
    (Next (let t = host_counted (booked m s) rest in with_hart t (with_regs t.hart ((10, 1) ∷ []))))
run-agrees ph p args limits m s rest d rd bl h =
    let k : NextIs m.table = next-is m.table d.rests d.related.related.turns rd in
    let m1 : Machine = counted m rest in
    let s1 : Host = host_books (booked m s) (slice_set s.hart.regs 10 1) m.pending m.arrays rest m.printed (m.events + 1) in
    let l : length s.hart.regs ≡ 32 = d.related.related.registers in
    let rel : RelatedAt 80 p limits m1 s1 = record {
      related = related-books p limits m (booked m s) (slice_set s.hart.regs 10 1) m.pending m.arrays rest m.printed (m.events + 1) d.related.related
          (base-set s.hart.regs 10 1 refl);
      at = d.related.at;
    } in
    let few : length m.arrays ≤ m.events = d.valued.few_arrays in
    let v : Valued p limits m1 = record { sent = d.valued.sent; cells = d.valued.cells; few_arrays = omega arith; in_budget = omega arith } in
    subst (λ (y : Option (ℕ × ℕ) × FrameTable). AgreeOn (s.hart.steps + thread_bound p m y) p limits (run_taken Giving p m1 y) (Next s1)) (sym k.is)
    (go k.frame k.thread k.table m1 s1 rel (set-same s.hart.regs 10 1 (omega arith)) v d.rests k.is
    (done_thread Giving (record m1 { table = k.table }) k.frame (thread_at (text_at p m1 k.frame) k.thread).instrs) refl
    (subst (λ (y : Option (ℕ × ℕ) × FrameTable). IsTame (run_taken Giving p m1 y)) k.is h))
  where
    go : (f t : ℕ) (table : FrameTable) (m1 : Machine) (s1 : Host) → RelatedAt 80 p limits m1 s1
        → reg s1.hart 10 ≡ 1 → Valued p limits m1 → Rests m1.table → next_thread m1.table ≡ (Some (f, t), table) → (g : Progress)
        → done_thread Giving (record m1 { table = table }) f (thread_at (text_at p m1 f) t).instrs ≡ g → IsTame (as_outcome g m1)
        → AgreeOn (s1.hart.steps + run_bound (length (thread_at (text_at p m1 f) t).instrs)) p limits (as_outcome g m1) (Next s1)
    go f t table m1 s1 rel z v rs nt (Fine n) q u = run-goes ph p args limits m1 n s1 f t table d.may rel z nt v rs q
    go f t table m1 s1 rel z v rs nt (Broken what n) q u = absurd (untame what n m1 u)

-- a budget that isn't spent
budget-left : (n b : ℕ) → n ≤ b → (n == b) ≡ false → n < b
budget-left n b l e = let d : n ≢ b = number-differs n b e in omega arith

-- what was chosen
pub chosen-agrees : Phases → (p : Program) (args : List ℕ) (limits : Limits) (m : Machine) (s : Host) → AtPoll p args limits m s → (c : Choice × List Item)
    → (c.0 ≡ Choose_run → is_ready m.table ≡ true) → IsTame (chosen Giving p limits m c)
    → AgreeOn (s.hart.steps + choice_bound p m c.0) p limits (chosen Giving p limits m c) (host_chosen (plain_image p) limits (booked m s) c)
chosen-agrees ph p args limits m s d (Choose_quiet, rest) rd h = (refl, d.related.related.same)
chosen-agrees ph p args limits m s d (Choose_run, rest) rd h =
    let over : Outcome Machine = Ended (Budget_spent m.events) m in
    let host_over : Outcome Host = Ended (Budget_spent m.events) (booked m s) in
    either-agrees (s.hart.steps + thread_bound p m (next_thread m.table)) p limits (m.events == limits.budget) (m.events == limits.budget) over
    (run_taken Giving p (counted m rest) (next_thread m.table)) host_over
    (Next (let t = host_counted (booked m s) rest in with_hart t (with_regs t.hart ((10, 1) ∷ [])))) refl h (λ q t. (refl, d.related.related.same))
    (λ q t. run-agrees ph p args limits m s rest d (rd refl) (budget-left m.events limits.budget d.valued.in_budget q) t)
chosen-agrees ph p args limits m s d (Choose_delivery k, rest) rd h =
    let over : Outcome Machine = Ended (Budget_spent m.events) m in
    let host_over : Outcome Host = Ended (Budget_spent m.events) (booked m s) in
    either-agrees (s.hart.steps + message_bound p (slice_get m.pending k)) p limits (m.events == limits.budget) (m.events == limits.budget) over
    (delivered_at Giving p limits (counted m rest) k (slice_get m.pending k)) host_over
    (host_delivered_at (plain_image p) limits (host_counted (booked m s) rest) k (slice_get m.pending k)) refl h (λ q t. (refl, d.related.related.same))
    (λ q t. go (budget-left m.events limits.budget d.valued.in_budget q) (slice_get m.pending k) refl t)
  where
    rel : (x : List Message) → RelatedAt 80 p limits (with_books m x m.arrays rest m.printed (m.events + 1))
        (host_books (booked m s) s.hart.regs x m.arrays rest m.printed (m.events + 1))
    rel x = record {
      related = related-books p limits m (booked m s) s.hart.regs x m.arrays rest m.printed (m.events + 1) d.related.related (base-kept s.hart.regs);
      at = d.related.at;
    }

    go : m.events < limits.budget → (o : Option Message) → slice_get m.pending k ≡ o → IsTame (delivered_at Giving p limits (counted m rest) k o)
        → AgreeOn (s.hart.steps + message_bound p o) p limits (delivered_at Giving p limits (counted m rest) k o)
        (host_delivered_at (plain_image p) limits (host_counted (booked m s) rest) k o)
    go b None e t = (refl, (rel m.pending).related.same)
    go b (Some x) e t =
        let few : length m.arrays ≤ m.events = d.valued.few_arrays in
        let m1 : Machine = with_books m (without_place k m.pending) m.arrays rest m.printed (m.events + 1) in
        let at : AtDelivery p args limits m1 s = record {
          may = d.may;
          related = rel (without_place k m.pending);
          valued = record { sent = sent-fewer p k m.pending d.valued.sent; cells = d.valued.cells; few_arrays = omega arith; in_budget = omega arith };
          rests = d.rests;
          room = omega arith;
        } in
        delivered-agrees ph p args limits m1 s at x (d.valued.sent x (get-in m.pending k x e)) t

-- a thread is only run where some is ready
pub choice-ready : (order : List Item) (ready : Bool) (n : ℕ) → (choice order ready n).0 ≡ Choose_run → ready ≡ true
choice-ready order true n e = refl
choice-ready [] false zero e = absurd cc
choice-ready [] false (suc n) e = absurd cc
choice-ready (Ready ∷ rest) false zero e = absurd cc
choice-ready (Ready ∷ rest) false (suc n) e = absurd cc
choice-ready (Place k ∷ rest) false zero e = absurd cc
choice-ready (Place k ∷ rest) false (suc n) e = absurd cc
