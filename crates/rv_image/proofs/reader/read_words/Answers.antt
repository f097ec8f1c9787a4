-- One word more is read.
use Rattle.std.proofs.Common.{◌≡◌, ◌++◌, ◌∷◌, [], ◌≤◌, length, List, ℕ, take, ap, ◌∙◌, arith}
use Rattle.rv_inst.specs.Harts.{read_at}
use Rattle.rv_image.proofs.WordBytes.{words-step}
use Rattle.rv_image.proofs.reader.read_words.Goals as goal

pub loop-rest-preserved : goal.loop-rest-preserved
loop-rest-preserved c =
    let e : c.push.new.self.items ≡ c.loop-rest.words.items ++ c.word_at.result ∷ [] = c.in_ok-push.ensures.items in
    let v : c.word_at.result ≡ read_at (take 4 c.loop-rest.rest.now) 0 4 =
    c.word_at.ensures.value ∙ ap (λ (x : List ℕ). read_at x 0 4) c.split_at.ensures.front in
    let l : 4 ≤ length c.loop-rest.rest.now = omega arith in
    let s = words-step c.loop-rest.words.items c.loop-rest.rest.now c.args.bytes.now c.word_at.result (λ k. omega (arith, c.type_inv.bytes k)) l v
    c.loop-rest.invariant.bytes in
    record { bytes = rw (e, c.split_at.ensures.back) s; whole = omega arith }
