use Rattle.std.proofs.Common.{ℕ, ◌≡◌, ◌+◌, ◌*◌, ◌≤◌, ◌++◌, List, length, sym, subst, ap, ap₂, ◌∙◌, arith, slice_index}
use Rattle.std.specs.List.{AllByRecursion}
use Rattle.std.proofs.lemmas.List.{get_or_read}
use Rattle.tl0_code.specs.ThreadCode.{Thread, CodeText, code_text}
use Rattle.rv_keep.specs.Image.{inlets_of_code, record_and_inlets}
use Rattle.rv_gen.specs.Sayable.{IsInletThere}
use Rattle.rv_gen.specs.Parts.{starts_in, record_at}
use Rattle.rv_gen.proofs.Starting.{starts-count, starts-end}
use Rattle.rv_gen.proofs.Saying.{inlets-there}
use Rattle.rv_gen.proofs.Naming.{record-is}
use Rattle.rv_gen.proofs.records.push_code_record.Goals as goal

pub push_record-requires-clause-some_thread : goal.push_record-requires-clause-some_thread
push_record-requires-clause-some_thread c =
    let p = c.args.program.now in
    let n = c.args.number in
    let starts : c.deref.result.now ≡ starts_in p n = c.deref.ensures.value ∙ c.in_ok-starts.ensures.value in
    let long : length c.deref.result.now ≡ length (code_text p n).threads + 1 = ap (λ (ws : List ℕ). length ws) starts ∙ starts-count p n in
    omega arith

pub push_record-requires-clause-few_threads : goal.push_record-requires-clause-few_threads
push_record-requires-clause-few_threads c =
    let p = c.args.program.now in
    let n = c.args.number in
    let starts : c.deref.result.now ≡ starts_in p n = c.deref.ensures.value ∙ c.in_ok-starts.ensures.value in
    let long : length c.deref.result.now ≡ length (code_text p n).threads + 1 = ap (λ (ws : List ℕ). length ws) starts ∙ starts-count p n in
    let few : length (code_text p n).threads ≤ 3073 = (c.requires.checked.within.each_code n c.requires.there).few_threads in
    omega arith

pub push_record-requires-clause-there : goal.push_record-requires-clause-there
push_record-requires-clause-there c =
    let p = c.args.program.now in
    let n = c.args.number in
    let own : c.code_at-code.result.now ≡ code_text p n = c.code_at-code.ensures.value in
    let starts : c.deref.result.now ≡ starts_in p n = c.deref.ensures.value ∙ c.in_ok-starts.ensures.value in
    let long : length c.deref.result.now ≡ length (code_text p n).threads + 1 = ap (λ (ws : List ℕ). length ws) starts ∙ starts-count p n in
    subst (λ (t : CodeText). AllByRecursion (IsInletThere t.slots (length c.deref.result.now)) t.inlets) (sym own)
    (subst (λ (k : ℕ). AllByRecursion (IsInletThere (code_text p n).slots k) (code_text p n).inlets) (sym long)
    (inlets-there p n c.requires.checked c.requires.there))

pub index-requires : goal.index-requires
index-requires c =
    let p = c.args.program.now in
    let n = c.args.number in
    let own : c.code_at-code.result.now ≡ code_text p n = c.code_at-code.ensures.value in
    let long : length c.in_ok-starts.starts.items ≡ length (code_text p n).threads + 1 =
    ap (λ (ws : List ℕ). length ws) c.in_ok-starts.ensures.value ∙ starts-count p n in
    let count : length c.threads-2.result.now ≡ length (code_text p n).threads =
    ap (λ (ts : List Thread). length ts) (c.threads-2.ensures.value ∙ ap (λ (t : CodeText). t.threads) own) in
    omega (arith, c.in_ok-starts.starts.ok.0)

pub returns-clause-ok : goal.returns-clause-ok
returns-clause-ok c =
    let p = c.args.program.now in
    let n = c.args.number in
    let own : c.code_at-code.result.now ≡ code_text p n = c.code_at-code.ensures.value in
    let starts : c.deref.result.now ≡ starts_in p n = c.deref.ensures.value ∙ c.in_ok-starts.ensures.value in
    let count : length c.threads.result.now ≡ length (code_text p n).threads =
    ap (λ (ts : List Thread). length ts) (c.threads.ensures.value ∙ ap (λ (t : CodeText). t.threads) own) in
    let address = c.requires.address in
    let table : c.args.address + 4 * (4 + length c.threads.result.now) ≡ inlets_of_code p n = omega arith in
    let same : record_at (c.args.address + 4 * (4 + length c.threads.result.now)) c.deref.result.now c.code_at-code.result.now ≡ record_and_inlets p n =
    ap₂ (λ (a : ℕ) (ws : List ℕ). record_at a ws c.code_at-code.result.now) table starts
    ∙ (ap (λ (t : CodeText). record_at (inlets_of_code p n) (starts_in p n) t) own ∙ record-is p n c.requires.checked c.requires.there) in
    c.in_ok-push_record.ensures.ok ∙ ap (λ (ws : List ℕ). c.args.words.now.items ++ ws) same

pub returns-clause-next : goal.returns-clause-next
returns-clause-next c =
    let p = c.args.program.now in
    let n = c.args.number in
    let own : c.code_at-code.result.now ≡ code_text p n = c.code_at-code.ensures.value in
    let long : length c.in_ok-starts.starts.items ≡ length (code_text p n).threads + 1 =
    ap (λ (ws : List ℕ). length ws) c.in_ok-starts.ensures.value ∙ starts-count p n in
    let count : length c.threads-2.result.now ≡ length (code_text p n).threads =
    ap (λ (ts : List Thread). length ts) (c.threads-2.ensures.value ∙ ap (λ (t : CodeText). t.threads) own) in
    get_or_read c.in_ok-starts.starts.items (length c.threads-2.result.now) c.index.result.now (omega arith) c.index.ensures 0
    ∙ (ap₂ (λ (ws : List ℕ) (i : ℕ). slice_index ws i) c.in_ok-starts.ensures.value count ∙ starts-end p n c.requires.there)
