-- Lists of words that are pushed one behind another.
use Rattle.std.proofs.Common.{◌≡◌, ℕ, List, ◌++◌, sym, ap, ◌∙◌, append_assoc}
use Rattle.std.proofs.lemmas.List.{map-append}
use Rattle.rv_inst.specs.declared.inst.Inst.{Inst}
use Rattle.rv_gen.specs.Parts.{word_of, words_of}

-- the words of instructions were pushed
pub record Pushes (old new : List ℕ) (insts : List Inst) : Type 0 where
  pub pushes : new ≡ old ++ words_of insts

-- the instructions are those of a definition
pub piece : (old new : List ℕ) (made insts : List Inst) → new ≡ old ++ words_of made → made ≡ insts → Pushes old new insts
piece old new made insts e same = record { pushes = e ∙ ap (λ (is : List Inst). old ++ words_of is) same }

-- others were pushed behind them
pub both : {old now new : List ℕ} {insts more : List Inst} → Pushes old now insts → Pushes now new more → Pushes old new (insts ++ more)
both {old} {now} {new} {insts} {more} p q = record {
  pushes =
      q.pushes ∙ (ap (λ (ws : List ℕ). ws ++ words_of more) p.pushes
      ∙ (append_assoc old (words_of insts) (words_of more) ∙ ap (λ (ws : List ℕ). old ++ ws) (sym (map-append word_of insts more))));
}
