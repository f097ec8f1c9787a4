use Rattle.std.proofs.Common.{◌≡◌, ◌∙◌, ◌++◌, ℕ, List, ap, append_assoc}
use Rattle.std.specs.Prelude.{codes, decimal, flat_map}
use Rattle.std.proofs.lemmas.Result.{on_ok_weaker}
use Rattle.tam_word.specs.Lists.{below}
use Rattle.tam_make.specs.MadeTexts.{rung_text, end_text}
use Rattle.tam_make.proofs.making.push_step.Goals as goal

-- a part, and behind it the rest
behind : (old part rest : List ℕ) {new whole : List ℕ} → new ≡ old ++ part → whole ≡ new ++ rest → whole ≡ old ++ (part ++ rest)
behind old part rest {new} {whole} p q = q ∙ ap (λ l. l ++ rest) p ∙ append_assoc old part rest

pub returns : goal.returns
returns c =
    let end = end_text c.args.n c.args.k in
    let rungs = flat_map rung_text (below 99) ++ end in
    let first = codes "\na1 = add x k\n" ++ rungs in
    let word = decimal c.args.k ++ first in
    let param = codes "\nx = param 0\nk = const " ++ word in
    let number = decimal c.args.k ++ param in
    record {
      ok = on_ok_weaker c.push_end.result (λ ended.
          behind c.args.text.now.items (codes "code s") number c.in_ok-extend_from_slice.ensures.items
          (behind c.extend_from_slice.new.self.items (decimal c.args.k) param c.in_ok-push_number.ensures.ok
          (behind c.push_number.new.text.items (codes "\nx = param 0\nk = const ") word c.in_ok-extend_from_slice-2.ensures.items
          (behind c.extend_from_slice-2.new.self.items (decimal c.args.k) first c.in_ok-push_number-2.ensures.ok
          (behind c.push_number-2.new.text.items (codes "\na1 = add x k\n") rungs c.in_ok-extend_from_slice-3.ensures.items
          (behind c.extend_from_slice-3.new.self.items (flat_map rung_text (below 99)) end c.in_ok-push_rungs.ensures.ok ended))))))
          c.push_end.ensures.ok;
    }
