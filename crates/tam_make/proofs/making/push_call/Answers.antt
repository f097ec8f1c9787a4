use Rattle.std.proofs.Common.{◌≡◌, ◌∙◌, ◌++◌, ℕ, List, ap, append_assoc}
use Rattle.std.specs.Prelude.{codes, decimal}
use Rattle.tam_make.proofs.making.push_call.Goals as goal

-- three parts, one behind the other
three : (old a b c first both all : List ℕ) → first ≡ old ++ a → both ≡ first ++ b → all ≡ both ++ c → all ≡ old ++ (a ++ (b ++ c))
three old a b c first both all p q r =
    r ∙ ap (λ l. l ++ c) (q ∙ ap (λ l. l ++ b) p ∙ append_assoc old a b) ∙ append_assoc old (a ++ b) c ∙ ap (λ l. old ++ l) (append_assoc a b c)

pub returns : goal.returns
returns c = record {
  ok = three c.args.text.now.items (codes "f = call s") (decimal c.args.k) (codes "\narg f 0 a100\nr = ret f 0\nresult 0 r\nend\n") _ _ _
      c.in_ok-extend_from_slice.ensures.items c.in_ok-push_number.ensures.ok c.in_ok-extend_from_slice-2.ensures.items;
}
