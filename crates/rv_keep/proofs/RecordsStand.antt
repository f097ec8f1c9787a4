-- The records of codes and their inlet tables stand where the image's words stand.
use Rattle.std.proofs.Common.{◌≡◌, ℕ, zero, suc, ◌+◌, ◌*◌, ◌^◌, ◌<◌, ◌≤◌, List, [], ◌∷◌, ◌++◌, length, take, map, flat_map, refl, sym, ap, ◌∙◌, arith}
use Rattle.std.proofs.Common.{subst, slice_get, Some}
use Rattle.std.proofs.lemmas.List.{length-append, length-take-le}
use Rattle.std.proofs.lemmas.List.Concat.{flat_map_single}
use Rattle.std.specs.Prelude.{sum_by}
use Rattle.tam_word.specs.Lists.{below}
use Rattle.tam_word.proofs.Members.{In, get-in, in-map}
use Rattle.tam_msgs.specs.declared.limits.Limits.{Limits}
use Rattle.tl0_code.specs.declared.inlet.Inlet.{Inlet}
use Rattle.tl0_code.specs.ThreadCode.{Thread, CodeText, Program, code_text, counts_of, or_text}
use Rattle.rv_inst.specs.declared.inst.Inst.{Inst}
use Rattle.rv_inst.specs.Instructions.{encoded}
use Rattle.rv_inst.specs.Harts.{read_at}
use Rattle.rv_inst.specs.Steps.{HoldsWords}
use Rattle.rv_keep.specs.FrameRecords.{slot_at, cell_at}
use Rattle.rv_keep.specs.Kernel.{kernel}
use Rattle.rv_keep.specs.KernelPlaces.{kernel_words}
use Rattle.rv_keep.specs.KernelFrames.{WordIs, InletIs, RecordIs}
use Rattle.rv_keep.specs.Image.{words_in_all, stride_of, code_table, start_of, code_words, thread_words, threads_words, record_words, code_insts}
use Rattle.rv_keep.specs.Image.{record_of, inlets_of_code, inlet_words, record_and_inlets, image_words}
use Rattle.rv_keep.specs.MachineLaws.{MayRun}
use Rattle.rv_keep.proofs.ImageLengths.{total, sum-total, total-same, total-numbers, total-more, record-long, threads-long, length-below, length-mapped}
use Rattle.rv_keep.proofs.CheckedCode.{inlet-there, count-there}
use Rattle.rv_keep.proofs.Placing.{holds-split, holds-first, holds-behind, holds-numbers, stands-among, stands-below}

-- ---- sums of parts

-- the first elements come to at most all
total-take-le : {X : Type 0} (f : X → ℕ) (xs : List X) (n : ℕ) → total f (take n xs) ≤ total f xs
total-take-le f [] zero = omega arith
total-take-le f [] (suc n) = omega arith
total-take-le f (x ∷ xs) zero = omega arith
total-take-le f (x ∷ xs) (suc n) = let e : total f (take n xs) ≤ total f xs = total-take-le f xs n in omega arith

-- those before a code and the code too
code-among : (g : CodeText → ℕ) (p : Program) (c : ℕ) → c < length p.codes → sum_by g (take c p.codes) + g (code_text p c) ≤ sum_by g p.codes
code-among g p c l =
    let a : total g (take (suc c) p.codes) ≡ total g (take c p.codes) + g (or_text (slice_get p.codes c)) = total-more g p.codes c l in
    let b : total g (take (suc c) p.codes) ≤ total g p.codes = total-take-le g p.codes (suc c) in
    let d : sum_by g (take c p.codes) ≡ total g (take c p.codes) = sum-total g (take c p.codes) in
    let e : sum_by g p.codes ≡ total g p.codes = sum-total g p.codes in
    omega arith

-- a thread begins among the threads
pub start-among : (p : Program) (c t : ℕ) → c < length p.codes → start_of p c t ≤ code_table p
start-among p c t l =
    let a : sum_by code_words (take c p.codes) + code_words (code_text p c) ≤ sum_by code_words p.codes = code-among code_words p c l in
    let ts : List Thread = (code_text p c).threads in
    let b : total thread_words (take t ts) ≤ total thread_words ts = total-take-le thread_words ts t in
    let d : threads_words (take t ts) ≡ total thread_words (take t ts) = sum-total thread_words (take t ts) in
    let e : threads_words ts ≡ total thread_words ts = sum-total thread_words ts in
    omega arith

-- so within the image
pub start-below : (p : Program) (c t : ℕ) → c < length p.codes → start_of p c t < 4 * words_in_all p
start-below p c t l = let a : start_of p c t ≤ code_table p = start-among p c t l in omega arith

-- a record with its inlet table ends within the image
pub record-ends : (p : Program) (c : ℕ) → c < length p.codes → record_of p c + 4 * record_words (code_text p c) ≤ 4 * words_in_all p
record-ends p c l =
    let a : sum_by record_words (take c p.codes) + record_words (code_text p c) ≤ sum_by record_words p.codes = code-among record_words p c l in
    omega arith

-- a list has an element only at a place below its length
pub below-length : {X : Type 0} (xs : List X) (k : ℕ) (x : X) → slice_get xs k ≡ Some x → k < length xs
below-length [] k x h = absurd cc
below-length (z ∷ xs) zero x h = omega arith
below-length (z ∷ xs) (suc k) x h = let r : k < length xs = below-length xs k x h in omega arith

-- ---- words at their places

-- what the words behind the threads are
tables-hold : (p : Program) (memory : List ℕ) → HoldsWords memory 0 (image_words p)
    → HoldsWords memory (code_table p) (map (record_of p) (below (length p.codes)))
    × HoldsWords memory (code_table p + 4 * length p.codes) (flat_map (record_and_inlets p) (below (length p.codes)))
tables-hold p memory h =
    let codes : List ℕ = below (length p.codes) in
    let k : List Inst = kernel (4 * words_in_all p) (stride_of p) (code_table p) p.main in
    let threads : List Inst = flat_map (code_insts p) codes in
    let ws : List ℕ = map (record_of p) codes ++ flat_map (record_and_inlets p) codes in
    let a : length (map encoded (k ++ threads)) ≡ length k + length threads = length-mapped encoded (k ++ threads) ∙ length-append k threads in
    let b : length threads ≡ sum_by code_words p.codes = threads-long p in
    let g : length k ≡ kernel_words = refl in
    let e : 0 + 4 * length (map encoded (k ++ threads)) ≡ code_table p = omega arith in
    let s : HoldsWords memory (code_table p) ws = subst (λ (x : ℕ). HoldsWords memory x ws) e (holds-split memory 0 (map encoded (k ++ threads)) ws h).1 in
    let t = holds-split memory (code_table p) (map (record_of p) codes) (flat_map (record_and_inlets p) codes) s in
    let l : length (map (record_of p) codes) ≡ length p.codes = length-mapped (record_of p) codes ∙ length-below (length p.codes) in
    (t.0, subst (λ (x : ℕ). HoldsWords memory (code_table p + 4 * x) (flat_map (record_and_inlets p) codes)) l t.1)

-- words of one each
total-ones : (p : Program) (xs : List ℕ) → total (λ y. length (record_of p y ∷ [])) xs ≡ length xs
total-ones p [] = refl
total-ones p (x ∷ xs) = let e : total (λ y. length (record_of p y ∷ [])) xs ≡ length xs = total-ones p xs in omega arith

-- what is asked of the memory
pub record HoldsImage (p : Program) (memory : List ℕ) : Type 0 where
  pub image : HoldsWords memory 0 (image_words p)
  pub long : 4 * words_in_all p ≤ length memory

-- the code table has the address of each record
pub code-word : (p : Program) (args : List ℕ) (limits : Limits) (memory : List ℕ) (c : ℕ) → MayRun p args limits → HoldsImage p memory → c < length p.codes
    → WordIs memory (4 * c + code_table p) (record_of p c)
code-word p args limits memory c r h l =
    let n : ℕ = length p.codes in
    let g : ℕ → List ℕ = λ y. record_of p y ∷ [] in
    let f : HoldsWords memory (code_table p) (flat_map g (below n)) =
    subst (λ (x : List ℕ). HoldsWords memory (code_table p) x) (sym (flat_map_single (record_of p) (below n))) (tables-hold p memory h.image).0 in
    let s : HoldsWords memory (code_table p + 4 * total (λ y. length (g y)) (below c)) (g c) =
    stands-below (λ (a : ℕ) (ws : List ℕ). HoldsWords memory a ws) (λ a xs ys k. holds-split memory a xs ys k) g n (code_table p) c l f in
    let t : total (λ y. length (g y)) (below c) ≡ c = total-ones p (below c) ∙ length-below c in
    let e : code_table p + 4 * total (λ y. length (g y)) (below c) ≡ 4 * c + code_table p = omega arith in
    let b : record_of p c + 4 * record_words (code_text p c) ≤ 4 * words_in_all p = record-ends p c l in
    let fits : words_in_all p ≤ 16777210 = r.fits in
    let long : 4 * words_in_all p ≤ length memory = h.long in
    record {
      aligned = omega arith;
      inside = omega arith;
      is = holds-first memory (4 * c + code_table p) (record_of p c) [] (subst (λ (x : ℕ). HoldsWords memory x (g c)) e s) (omega arith);
    }

-- a record with its inlet table stands at its address
record-holds : (p : Program) (memory : List ℕ) (c : ℕ) → HoldsImage p memory → c < length p.codes → HoldsWords memory (record_of p c) (record_and_inlets p c)
record-holds p memory c h l =
    let a : ℕ = code_table p + 4 * length p.codes in
    let s : HoldsWords memory (a + 4 * total (λ y. length (record_and_inlets p y)) (below c)) (record_and_inlets p c) =
    stands-below (λ (x : ℕ) (ws : List ℕ). HoldsWords memory x ws) (λ x xs ys k. holds-split memory x xs ys k) (record_and_inlets p) (length p.codes) a c l
    (tables-hold p memory h.image).1 in
    let t : total (λ y. length (record_and_inlets p y)) (below c) ≡ sum_by record_words (take c p.codes) =
    total-same (λ y. length (record_and_inlets p y)) (λ y. record_words (code_text p y)) (below c) (record-long p)
    ∙ (total-numbers record_words p.codes c (omega arith) ∙ sym (sum-total record_words (take c p.codes))) in
    let e : a + 4 * total (λ y. length (record_and_inlets p y)) (below c) ≡ record_of p c = omega arith in
    subst (λ (x : ℕ). HoldsWords memory x (record_and_inlets p c)) e s

-- the numbers of a code's frames are small
pub record SmallCode (p : Program) (c : ℕ) : Type 0 where
  pub few_slots : (code_text p c).slots ≤ 1026
  pub few_threads : length (code_text p c).threads ≤ 3073
  pub some_thread : 0 < length (code_text p c).threads
  pub few_inlets : length (code_text p c).inlets ≤ 1024
  pub fits : words_in_all p ≤ 16777210

-- they are
pub small-code : (p : Program) (args : List ℕ) (limits : Limits) (c : ℕ) → MayRun p args limits → c < length p.codes → SmallCode p c
small-code p args limits c r l = let k = r.checked.within.each_code c l in record {
  few_slots = k.few_slots;
  few_threads = k.few_threads;
  some_thread = k.some_thread;
  few_inlets = k.few_inlets;
  fits = r.fits;
}

-- a record: its four words, and the entry counts behind them
pub record-stands : (p : Program) (args : List ℕ) (limits : Limits) (memory : List ℕ) (c : ℕ) → MayRun p args limits → HoldsImage p memory → c < length p.codes
    → RecordIs memory (record_of p c) (inlets_of_code p c) (cell_at (code_text p c).slots 0) (start_of p c 0) (counts_of (code_text p c))
record-stands p args limits memory c r h l =
    let x : CodeText = code_text p c in
    let at : ℕ = record_of p c in
    let cell : ℕ = cell_at x.slots 0 in
    let start : ℕ = start_of p c 0 in
    let rest : List ℕ = counts_of x ++ flat_map (inlet_words p c) x.inlets in
    let k : SmallCode p c = small-code p args limits c r l in
    let k0 : x.slots ≤ 1026 = k.few_slots in
    let k1 : length x.threads ≤ 3073 = k.few_threads in
    let k2 : words_in_all p ≤ 16777210 = k.fits in
    let k3 : 0 < length x.threads = k.some_thread in
    let b : at + 4 * record_words x ≤ 4 * words_in_all p = record-ends p c l in
    let v : start < 4 * words_in_all p = start-below p c 0 l in
    let n : length (counts_of x) ≡ length x.threads = length-mapped (λ t. t.count) x.threads in
    let long : 4 * words_in_all p ≤ length memory = h.long in
    let h0 : HoldsWords memory at (inlets_of_code p c ∷ cell ∷ length x.threads ∷ start ∷ rest) = record-holds p memory c h l in
    let h1 : HoldsWords memory (at + 4) (cell ∷ length x.threads ∷ start ∷ rest) = holds-behind memory at (inlets_of_code p c)
    (cell ∷ length x.threads ∷ start ∷ rest) h0 in
    let h2 : HoldsWords memory (at + 4 + 4) (length x.threads ∷ start ∷ rest) = holds-behind memory (at + 4) cell (length x.threads ∷ start ∷ rest) h1 in
    let h3 : HoldsWords memory (at + 4 + 4 + 4) (start ∷ rest) = holds-behind memory (at + 4 + 4) (length x.threads) (start ∷ rest) h2 in
    let h4 : HoldsWords memory (at + 4 + 4 + 4 + 4) rest = holds-behind memory (at + 4 + 4 + 4) start rest h3 in
    let e2 : at + 4 + 4 ≡ at + 8 = omega arith in
    let e3 : at + 4 + 4 + 4 ≡ at + 12 = omega arith in
    let e4 : at + 4 + 4 + 4 + 4 ≡ at + 16 = omega arith in
    record {
      aligned = omega arith;
      inside = omega arith;
      table_is = holds-first memory at (inlets_of_code p c) (cell ∷ length x.threads ∷ start ∷ rest) h0 (omega arith);
      cell_is = holds-first memory (at + 4) cell (length x.threads ∷ start ∷ rest) h1 (omega arith);
      threads_are = ap (λ (y : ℕ). read_at memory y 4) (sym e2)
          ∙ (holds-first memory (at + 4 + 4) (length x.threads) (start ∷ rest) h2 (omega arith) ∙ sym n);
      start_is = ap (λ (y : ℕ). read_at memory y 4) (sym e3) ∙ holds-first memory (at + 4 + 4 + 4) start rest h3 (omega arith);
      counts_are = holds-numbers memory (at + 16) (counts_of x) counts-small
          (holds-split memory (at + 16) (counts_of x) (flat_map (inlet_words p c) x.inlets) (subst (λ (y : ℕ). HoldsWords memory y rest) e4 h4)).0;
      some_thread = omega arith;
    }
  where
    counts-small : (w : ℕ) → In w (counts_of (code_text p c)) → w < 2 ^ 32
    counts-small w i =
        let g = in-map (λ t. t.count) w (code_text p c).threads i in
        let b = count-there p c g.0 r.checked l g.1 in
        let u : g.0.count ≤ 65535 = b.1 in
        let e : g.0.count ≡ w = g.2 in
        omega arith

-- words of four each
total-fours : (p : Program) (c : ℕ) (is : List Inlet) → total (λ y. length (inlet_words p c y)) is ≡ 4 * length is
total-fours p c [] = refl
total-fours p c (i ∷ is) = let e : total (λ y. length (inlet_words p c y)) is ≡ 4 * length is = total-fours p c is in omega arith

-- where an inlet's words stand: within the image
pub row-ends : (p : Program) (c i : ℕ) (x : Inlet) → c < length p.codes → slice_get (code_text p c).inlets i ≡ Some x
    → inlets_of_code p c + 16 * i + 16 ≤ 4 * words_in_all p
row-ends p c i x l e =
    let b : record_of p c + 4 * record_words (code_text p c) ≤ 4 * words_in_all p = record-ends p c l in
    let k : i < length (code_text p c).inlets = below-length (code_text p c).inlets i x e in
    omega arith

-- an inlet's words: where its slot and its thread's cell stand in a frame, and the thread's start
pub inlet-stands : (p : Program) (args : List ℕ) (limits : Limits) (memory : List ℕ) (c i : ℕ) (x : Inlet) → MayRun p args limits → HoldsImage p memory
    → c < length p.codes → slice_get (code_text p c).inlets i ≡ Some x
    → InletIs memory (inlets_of_code p c + 16 * i) (slot_at x.slot) (cell_at (code_text p c).slots x.thread) (start_of p c x.thread)
inlet-stands p args limits memory c i x r h l e =
    let t : CodeText = code_text p c in
    let at : ℕ = record_of p c in
    let cell : ℕ = cell_at t.slots x.thread in
    let start : ℕ = start_of p c x.thread in
    let heads : List ℕ = inlets_of_code p c ∷ cell_at t.slots 0 ∷ length t.threads ∷ start_of p c 0 ∷ counts_of t in
    let rows : List ℕ = flat_map (inlet_words p c) t.inlets in
    let n : length (counts_of t) ≡ length t.threads = length-mapped (λ y. y.count) t.threads in
    let o : at + 4 * length heads ≡ inlets_of_code p c = omega arith in
    let s : HoldsWords memory (inlets_of_code p c) rows = subst (λ (y : ℕ). HoldsWords memory y rows) o
    (holds-split memory at heads rows (record-holds p memory c h l)).1 in
    let q : HoldsWords memory (inlets_of_code p c + 4 * total (λ y. length (inlet_words p c y)) (take i t.inlets)) (inlet_words p c x) =
    stands-among (λ (y : ℕ) (ws : List ℕ). HoldsWords memory y ws) (λ y xs ys k. holds-split memory y xs ys k) (inlet_words p c) t.inlets
    (inlets_of_code p c) i x e s in
    let k : i < length t.inlets = below-length t.inlets i x e in
    let f : total (λ y. length (inlet_words p c y)) (take i t.inlets) ≡ 4 * length (take i t.inlets) = total-fours p c (take i t.inlets) in
    let g : length (take i t.inlets) ≡ i = length-take-le i t.inlets (omega arith) in
    let row : ℕ = inlets_of_code p c + 16 * i in
    let u : inlets_of_code p c + 4 * total (λ y. length (inlet_words p c y)) (take i t.inlets) ≡ row = omega arith in
    let h0 : HoldsWords memory row (slot_at x.slot ∷ cell ∷ start ∷ 0 ∷ []) = subst (λ (y : ℕ). HoldsWords memory y (inlet_words p c x)) u q in
    let h1 : HoldsWords memory (row + 4) (cell ∷ start ∷ 0 ∷ []) = holds-behind memory row (slot_at x.slot) (cell ∷ start ∷ 0 ∷ []) h0 in
    let h2 : HoldsWords memory (row + 4 + 4) (start ∷ 0 ∷ []) = holds-behind memory (row + 4) cell (start ∷ 0 ∷ []) h1 in
    let e2 : row + 4 + 4 ≡ row + 8 = omega arith in
    let sc : SmallCode p c = small-code p args limits c r l in
    let k0 : t.slots ≤ 1026 = sc.few_slots in
    let k1 : length t.threads ≤ 3073 = sc.few_threads in
    let k2 : words_in_all p ≤ 16777210 = sc.fits in
    let th = inlet-there p c x r.checked l (get-in t.inlets i x e) in
    let t0 : x.slot < t.slots = th.0 in
    let t1 : x.thread < length t.threads = th.1 in
    let v : start < 4 * words_in_all p = start-below p c x.thread l in
    let b : row + 16 ≤ 4 * words_in_all p = row-ends p c i x l e in
    let long : 4 * words_in_all p ≤ length memory = h.long in
    record {
      slot_word = record { aligned = omega arith; inside = omega arith; is = holds-first memory row (slot_at x.slot) (cell ∷ start ∷ 0 ∷ []) h0 (omega arith) };
      cell_word = record { aligned = omega arith; inside = omega arith; is = holds-first memory (row + 4) cell (start ∷ 0 ∷ []) h1 (omega arith) };
      start_word = record {
        aligned = omega arith;
        inside = omega arith;
        is = ap (λ (y : ℕ). read_at memory y 4) (sym e2) ∙ holds-first memory (row + 4 + 4) start (0 ∷ []) h2 (omega arith);
      };
    }
