use Rattle.std.proofs.Common.{◌≡◌, ◌+◌, ◌*◌, ◌≤◌, List, ap, ◌∙◌, arith}
use Rattle.tl0_code.specs.ThreadCode.{Thread, CodeText, code_text}
use Rattle.rv_keep.specs.Image.{threads_words, code_words, words_in_all, start_of}
use Rattle.rv_gen.proofs.Starting.{start-within}
use Rattle.rv_gen.proofs.threads.starts_in.Goals as goal

pub starts_of-requires : goal.starts_of-requires
starts_of-requires c =
    let p = c.args.program.now in
    let n = c.args.number in
    let threads : c.threads.result.now ≡ (code_text p n).threads = c.threads.ensures.value ∙ ap (λ (t : CodeText). t.threads) c.code_at.ensures.value in
    let words : threads_words c.threads.result.now ≡ code_words (code_text p n) = ap (λ (ts : List Thread). threads_words ts) threads in
    let within : start_of p n 0 + 4 * code_words (code_text p n) ≤ 4 * words_in_all p = start-within p n c.requires.there in
    let fits : words_in_all p ≤ 16777210 = c.requires.fits in
    let first : c.args.first ≡ start_of p n 0 = c.requires.first in
    record { fits = omega arith }

pub returns : goal.returns
returns c =
    let threads : c.threads.result.now ≡ (code_text c.args.program.now c.args.number).threads =
    c.threads.ensures.value ∙ ap (λ (t : CodeText). t.threads) c.code_at.ensures.value in
    record { value = rw (threads, c.requires.first) at c.starts_of.ensures.value }
