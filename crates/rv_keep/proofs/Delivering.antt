-- A word for a live frame: from the poll it comes into its slot, its inlet's thread is spent once, and the kernel polls, the two runs related.
use Rattle.std.proofs.Common.{◌≡◌, true≢false, ℕ, ◌+◌, ◌*◌, ◌%◌, ◌^◌, ◌<◌, ◌≤◌, List, [], ◌∷◌, length, refl, sym, ap, ◌∙◌, arith, true, false, Option}
use Rattle.std.proofs.Common.{Some, None, slice_get, inl, inr}
use Rattle.std.proofs.lemmas.List.{length-take-le}
use Rattle.tam_word.specs.Lists.{has}
use Rattle.tam_word.proofs.Members.{In, not-has, get-in}
use Rattle.tam_msgs.specs.declared.limits.Limits.{Limits}
use Rattle.frame_tables.specs.FrameTables.{Frame, or_frame, is_live, is_some_frame}
use Rattle.tl0_code.specs.declared.inlet.Inlet.{Inlet}
use Rattle.tl0_code.specs.ThreadCode.{CodeText, Program, code_text}
use Rattle.tl0_code.specs.Machines.{Machine, Fine, code_at, put, spend_of}
use Rattle.tl0_code.specs.ThreadRuns.{text_at}
use Rattle.rv_inst.specs.Harts.{reg, written_at}
use Rattle.rv_keep.specs.FrameRecords.{slot_at, cell_at}
use Rattle.rv_keep.specs.KernelPlaces.{poll_at, deliver_at, post_at}
use Rattle.rv_keep.specs.KernelSteps.{Goes}
use Rattle.rv_keep.specs.KernelFrames.{Delivery}
use Rattle.rv_keep.specs.Image.{words_in_all, stride_of, start_of, inlets_of_code}
use Rattle.rv_keep.specs.FrameBytes.{base_regs}
use Rattle.rv_keep.specs.Posting.{gone}
use Rattle.rv_keep.specs.Hosts.{Host, with_hart}
use Rattle.rv_keep.specs.MachineLaws.{MayRun}
use Rattle.rv_keep.specs.Relation.{FrameHolds, Related, frame_address, own_part}
use Rattle.rv_keep.specs.PhaseLaws.{Onward, RelatedAt, ComesTo, SpendsOne, Words}
use Rattle.rv_keep.proofs.KernelWalks.{turns-to-deliver}
use Rattle.rv_keep.proofs.KernelDelivers.{posted-polls, delivers-word}
use Rattle.rv_keep.proofs.Phases.{related-at, related-still, onward-comes, onward-joined, base-goes}
use Rattle.rv_keep.proofs.TableChanges.{live-frame, live-changed}
use Rattle.rv_keep.proofs.SlotRelated.{slotted_frame}
use Rattle.rv_keep.proofs.Putting.{related-put}
use Rattle.rv_keep.proofs.CheckedCode.{inlet-there}
use Rattle.rv_keep.proofs.RecordsStand.{HoldsImage, inlet-stands, row-ends}

-- ---- steps put together

-- on the way, and then to an address
pub comes-behind : (a b pc : ℕ) (p : Program) (limits : Limits) (s t : Host) (m : Machine) → Onward a s t → ComesTo b pc p limits t m
    → ComesTo (a + b) pc p limits s m
comes-behind a b pc p limits s t m o c = record { host = c.host; onward = onward-joined a b s t c.host o c.onward; there = c.there }

-- and from there to another
pub comes-on : (a b pc at : ℕ) (p : Program) (limits : Limits) (s : Host) (m n : Machine) → (c : ComesTo a pc p limits s m) → ComesTo b at p limits c.host n
    → ComesTo (a + b) at p limits s n
comes-on a b pc at p limits s m n c d = comes-behind a b at p limits s c.host n c.onward d

-- what comes within fewer instructions comes within more
pub comes-within : (a b pc : ℕ) (p : Program) (limits : Limits) (s : Host) (m : Machine) → ComesTo a pc p limits s m → a ≤ b → ComesTo b pc p limits s m
comes-within a b pc p limits s m c l =
    let k : c.onward.took ≤ a = c.onward.few in
    record { host = c.host; onward = record { took = c.onward.took; few = omega arith; counted = c.onward.counted; goes = c.onward.goes }; there = c.there }

-- no base register is among others
pub base-apart : (xs : List ℕ) → ((x : ℕ) → In x xs → has base_regs x ≡ false) → (r : ℕ) → has base_regs r ≡ true → has xs r ≡ false
base-apart xs k r h = not-has xs r (λ i. true≢false (sym h ∙ k r i))

-- behind the post the kernel polls
pub polls-after : (p : Program) (args : List ℕ) (limits : Limits) (m : Machine) (s : Host) → MayRun p args limits → RelatedAt 244 p limits m s
    → ComesTo 1 poll_at p limits s m
polls-after p args limits m s r e =
    let g : Goes 1 s.hart poll_at [] [] s.hart.memory = posted-polls s.hart (related-at 244 p args limits m s r e) in
    record {
      host = with_hart s (gone s.hart 1 poll_at g.regs s.hart.memory);
      onward = onward-comes 1 s poll_at [] [] s.hart.memory g;
      there = record {
        related = related-still p limits m s 1 poll_at g.regs e.related (base-goes 1 s.hart poll_at [] [] s.hart.memory g e.related.registers (λ x q. refl));
        at = refl;
      };
    }

-- ---- frames

-- a frame of which a count can be spent is live
pub live-of : (m n : Machine) (f t : ℕ) (h : Option (Option Frame)) → spend_of m f t (slice_get (or_frame h).counts t) ≡ Fine n → is_some_frame h ≡ true
live-of m n f t None e = absurd cc
live-of m n f t (Some None) e = absurd cc
live-of m n f t (Some (Some h)) e = refl

-- a frame's number times the stride behind the base is its address
pub address-is : (p : Program) (f a b c : ℕ) → a ≡ f → b ≡ stride_of p → c ≡ 4 * words_in_all p → a * b + c ≡ frame_address p f
address-is p f a b c x y z =
    let u : a * b ≡ f * stride_of p = ap (λ (k : ℕ). k * b) x ∙ ap (λ (k : ℕ). f * k) y in
    omega arith

-- the memory has the image
pub image-held : (p : Program) (limits : Limits) (m : Machine) (s : Host) → Related p limits m s → HoldsImage p s.hart.memory
image-held p limits m s e =
    let l : length s.hart.memory ≡ 4 * words_in_all p + limits.frames * stride_of p = e.long in
    record { image = e.image; long = omega arith }

-- a word at the kernel's delivery, for a live frame
delivery : (p : Program) (args : List ℕ) (limits : Limits) (m : Machine) (s : Host) (f i w : ℕ) (inlet : Inlet) (h : Frame) → MayRun p args limits
    → Related p limits m s → slice_get m.table.frames f ≡ Some (Some h) → slice_get (text_at p m f).inlets i ≡ Some inlet
    → reg s.hart 11 ≡ f → reg s.hart 12 ≡ i → reg s.hart 13 ≡ w
    → Delivery s.hart (frame_address p f) i w (inlets_of_code p (code_at m f) + 16 * i) (slot_at inlet.slot) (cell_at (text_at p m f).slots inlet.thread)
    (start_of p (code_at m f) inlet.thread)
delivery p args limits m s f i w inlet h r e q g rf ri rw =
    let c : ℕ = code_at m f in
    let x : CodeText = code_text p c in
    let at : ℕ = frame_address p f in
    let fh : FrameHolds p s.hart.memory f c h = e.frames f h q in
    let own : Frame = own_part x h in
    let ls : length own.slots ≡ x.slots = length-take-le x.slots h.slots fh.slots_there in
    let lc : length own.counts ≡ length x.threads = length-take-le (length x.threads) h.counts fh.counts_there in
    let ins : at + cell_at (length own.slots) (length own.counts) ≤ length s.hart.memory = fh.stands.inside in
    let sm : length s.hart.memory < 2 ^ 32 = e.small in
    let al : at % 4 ≡ 0 = fh.stands.aligned in
    let th = inlet-there p c inlet r.checked fh.code_there (get-in x.inlets i inlet g) in
    let t0 : inlet.slot < x.slots = th.0 in
    let t1 : inlet.thread < length x.threads = th.1 in
    let rows : inlets_of_code p c + 16 * i + 16 ≤ 4 * words_in_all p = row-ends p c i inlet fh.code_there g in
    record {
      frame_is = address-is p f (reg s.hart 11) (reg s.hart 20) (reg s.hart 19) rf e.stride e.base;
      inlet_is = ri;
      word_is = rw;
      frame_in = record { aligned = al; behind = omega arith; inside = omega arith };
      row_is = ap (λ (k : ℕ). k + 16 * i) fh.table;
      row_has = inlet-stands p args limits s.hart.memory c i inlet r (image-held p limits m s e) fh.code_there g;
      row_before = omega arith;
      slot_in = record { aligned = omega arith; behind = omega arith; inside = omega arith };
      cell_small = omega arith;
    }

-- a word for a live frame, up to the poll
pub words-come : SpendsOne → Words
words-come spends p args limits m n s f i w inlet r e z rf ri rw u g sp =
    let c : ℕ = code_at m f in
    let x : CodeText = code_text p c in
    let d : ℕ = inlet.slot in
    let t : ℕ = inlet.thread in
    let lv : is_live (put m f d w).table f ≡ true = live-of (put m f d w) n f t (slice_get (put m f d w).table.frames f) sp in
    let v : is_live m.table f ≡ true = sym (live-changed m.table.frames f f (λ y. slotted_frame y d w)) ∙ lv in
    let fr = live-frame m.table.frames f v in
    let g1 : Goes 5 s.hart deliver_at (5 ∷ []) [] s.hart.memory = turns-to-deliver s.hart (related-at 80 p args limits m s r e) z in
    let s1 : Host = with_hart s (gone s.hart 5 deliver_at g1.regs s.hart.memory) in
    let e1 : Related p limits m s1 =
    related-still p limits m s 5 deliver_at g1.regs e.related (base-goes 5 s.hart deliver_at (5 ∷ []) [] s.hart.memory g1 e.related.registers
    (base-apart (5 ∷ []) (λ y k. elim k [ inl q ↦ ap (λ (a : ℕ). has base_regs a) (sym q) | inr q ↦ absurd q ]))) in
    let fh : FrameHolds p s.hart.memory f c fr.0 = e.related.frames f fr.0 fr.1 in
    let th = inlet-there p c inlet r.checked fh.code_there (get-in x.inlets i inlet g) in
    let dl = delivery p args limits m s1 f i w inlet fr.0 r e1 fr.1 g (g1.same 11 refl ∙ rf) (g1.same 12 refl ∙ ri) (g1.same 13 refl ∙ rw) in
    let row : ℕ = inlets_of_code p c + 16 * i in
    let cell : ℕ = cell_at x.slots t in
    let start : ℕ = start_of p c t in
    let now : List ℕ = written_at s.hart.memory (frame_address p f + slot_at d) 4 w in
    let sets : List (ℕ × ℕ) = (1, 244) ∷ (10, frame_address p f) ∷ (11, frame_address p f + cell) ∷ (12, start) ∷ [] in
    let used : List ℕ = 1 ∷ 5 ∷ 6 ∷ 10 ∷ 11 ∷ 12 ∷ [] in
    let g2 : Goes 12 s1.hart post_at used sets now =
    delivers-word s1.hart (frame_address p f) i w row (slot_at d) cell start
    (related-at deliver_at p args limits m s1 r (record { related = e1; at = refl })) dl in
    let s2 : Host = with_hart s1 (gone s1.hart 12 post_at g2.regs now) in
    let e2 : Related p limits (put m f d w) s2 =
    related-put p limits m s1 f d w 12 post_at g2.regs e1 v th.0 u (base-goes 12 s1.hart post_at used sets now g2 e1.registers (base-apart used used-apart)) in
    let c3 : ComesTo 16 244 p limits s2 n =
    spends p args limits (put m f d w) n s2 f t 244 r (record { related = e2; at = refl }) g2.set.1.0 g2.set.1.1.0 g2.set.1.1.1.0 g2.set.0
    th.1 refl (omega arith) sp in
    let c4 : ComesTo 1 poll_at p limits c3.host n = polls-after p args limits n c3.host r c3.there in
    let c5 : ComesTo (16 + 1) poll_at p limits s2 n = comes-on 16 1 244 poll_at p limits s2 n n c3 c4 in
    let c6 : ComesTo (12 + (16 + 1)) poll_at p limits s1 n =
    comes-behind 12 (16 + 1) poll_at p limits s1 s2 n (onward-comes 12 s1 post_at used sets now g2) c5 in
    comes-behind 5 (12 + (16 + 1)) poll_at p limits s s1 n (onward-comes 5 s deliver_at (5 ∷ []) [] s.hart.memory g1) c6
  where
    used-apart : (y : ℕ) → In y (1 ∷ 5 ∷ 6 ∷ 10 ∷ 11 ∷ 12 ∷ []) → has base_regs y ≡ false
    used-apart y (inl q) = ap (λ (a : ℕ). has base_regs a) (sym q)
    used-apart y (inr (inl q)) = ap (λ (a : ℕ). has base_regs a) (sym q)
    used-apart y (inr (inr (inl q))) = ap (λ (a : ℕ). has base_regs a) (sym q)
    used-apart y (inr (inr (inr (inl q)))) = ap (λ (a : ℕ). has base_regs a) (sym q)
    used-apart y (inr (inr (inr (inr (inl q))))) = ap (λ (a : ℕ). has base_regs a) (sym q)
    used-apart y (inr (inr (inr (inr (inr (inl q)))))) = ap (λ (a : ℕ). has base_regs a) (sym q)
    used-apart y (inr (inr (inr (inr (inr (inr q)))))) = absurd q
