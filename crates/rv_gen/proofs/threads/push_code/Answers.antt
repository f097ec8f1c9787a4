use Rattle.std.proofs.Common.{ℕ, ◌≡◌, ◌+◌, ◌≤◌, ◌++◌, List, length, flat_map, ap, ap₂, ◌∙◌, arith, slice_index}
use Rattle.std.proofs.lemmas.List.{get_or_read}
use Rattle.tl0_code.specs.ThreadCode.{Thread, CodeText, code_text}
use Rattle.rv_inst.specs.declared.inst.Inst.{Inst}
use Rattle.rv_keep.specs.Image.{code_insts}
use Rattle.rv_gen.specs.Parts.{words_of, starts_in, insts_at}
use Rattle.rv_gen.proofs.Starting.{starts-count, starts-end}
use Rattle.rv_gen.proofs.Saying.{threads-sayable}
use Rattle.rv_gen.proofs.Naming.{code-is}
use Rattle.rv_gen.proofs.threads.push_code.Goals as goal

pub push_threads-requires-clause-few_threads : goal.push_threads-requires-clause-few_threads
push_threads-requires-clause-few_threads c =
    let p = c.args.program.now in
    let n = c.args.number in
    let starts : c.deref.result.now ≡ starts_in p n = c.deref.ensures.value ∙ c.in_ok-starts.ensures.value in
    let long : length c.deref.result.now ≡ length (code_text p n).threads + 1 = ap (λ (ws : List ℕ). length ws) starts ∙ starts-count p n in
    let few : length (code_text p n).threads ≤ 3073 = (c.requires.checked.within.each_code n c.requires.there).few_threads in
    omega arith

pub push_threads-requires-clause-sayable : goal.push_threads-requires-clause-sayable
push_threads-requires-clause-sayable c =
    let p = c.args.program.now in
    let n = c.args.number in
    let own : c.code_at-code.result.now ≡ code_text p n = c.code_at-code.ensures.value in
    let starts : c.deref.result.now ≡ starts_in p n = c.deref.ensures.value ∙ c.in_ok-starts.ensures.value in
    let long : length c.deref.result.now ≡ length (code_text p n).threads + 1 = ap (λ (ws : List ℕ). length ws) starts ∙ starts-count p n in
    let slots : c.slots.result ≡ (code_text p n).slots = c.slots.ensures.value ∙ ap (λ (t : CodeText). t.slots) own in
    let threads : c.threads.result.now ≡ (code_text p n).threads = c.threads.ensures.value ∙ ap (λ (t : CodeText). t.threads) own in
    rw (slots, long, threads) (threads-sayable p n c.requires.checked c.requires.there)

pub index-requires : goal.index-requires
index-requires c =
    let p = c.args.program.now in
    let n = c.args.number in
    let own : c.code_at-code.result.now ≡ code_text p n = c.code_at-code.ensures.value in
    let long : length c.in_ok-starts.starts.items ≡ length (code_text p n).threads + 1 =
    ap (λ (ws : List ℕ). length ws) c.in_ok-starts.ensures.value ∙ starts-count p n in
    let count : length c.threads-2.result.now ≡ length (code_text p n).threads =
    ap (λ (ts : List Thread). length ts) (c.threads-2.ensures.value ∙ ap (λ (t : CodeText). t.threads) own) in
    omega (arith, c.in_ok-starts.starts.ok.0)

pub returns-clause-ok : goal.returns-clause-ok
returns-clause-ok c =
    let p = c.args.program.now in
    let n = c.args.number in
    let own : c.code_at-code.result.now ≡ code_text p n = c.code_at-code.ensures.value in
    let starts : c.deref.result.now ≡ starts_in p n = c.deref.ensures.value ∙ c.in_ok-starts.ensures.value in
    let slots : c.slots.result ≡ (code_text p n).slots = c.slots.ensures.value ∙ ap (λ (t : CodeText). t.slots) own in
    let threads : c.threads.result.now ≡ (code_text p n).threads = c.threads.ensures.value ∙ ap (λ (t : CodeText). t.threads) own in
    let same : flat_map (insts_at c.slots.result c.deref.result.now n) c.threads.result.now ≡ code_insts p n =
    ap₂ (λ (s : ℕ) (ws : List ℕ). flat_map (insts_at s ws n) c.threads.result.now) slots starts
    ∙ (ap (λ (ts : List Thread). flat_map (insts_at (code_text p n).slots (starts_in p n) n) ts) threads ∙ code-is p n c.requires.checked c.requires.there) in
    c.in_ok-push_threads.ensures.ok ∙ ap (λ (is : List Inst). c.args.words.now.items ++ words_of is) same

pub returns-clause-next : goal.returns-clause-next
returns-clause-next c =
    let p = c.args.program.now in
    let n = c.args.number in
    let own : c.code_at-code.result.now ≡ code_text p n = c.code_at-code.ensures.value in
    let long : length c.in_ok-starts.starts.items ≡ length (code_text p n).threads + 1 =
    ap (λ (ws : List ℕ). length ws) c.in_ok-starts.ensures.value ∙ starts-count p n in
    let count : length c.threads-2.result.now ≡ length (code_text p n).threads =
    ap (λ (ts : List Thread). length ts) (c.threads-2.ensures.value ∙ ap (λ (t : CodeText). t.threads) own) in
    get_or_read c.in_ok-starts.starts.items (length c.threads-2.result.now) c.index.result.now (omega arith) c.index.ensures 0
    ∙ (ap₂ (λ (ws : List ℕ) (i : ℕ). slice_index ws i) c.in_ok-starts.ensures.value count ∙ starts-end p n c.requires.there)
