-- A new label goes last.
use Rattle.std.proofs.Common.{◌≡◌, ℕ, ◌++◌, ◌∷◌, [], length, map, sym, ap, ◌∙◌, rules}
use Rattle.std.proofs.lemmas.List.{length-map}
use Rattle.rv_asm.specs.Faults.{Labels}
use Rattle.rv_asm.specs.PassView.{labels_seen, placed_seen, said}
use Rattle.rv_asm.proofs.Labelled.{put-new}
use Rattle.rv_asm.proofs.pass.put_label.Goals as goal

pub returns : goal.returns
returns c =
    let words = c.args.pass.now.words.items in
    let is : c.len-words.result ≡ length words = search rules in
    let count : c.len-words.result ≡ length (map placed_seen words) = is ∙ sym (length-map words placed_seen) in
    let new : labels_seen c.insert.new.self.entries ≡ labels_seen c.args.pass.now.labels.entries ++ (c.args.name.now, c.len-words.result) ∷ [] =
    put-new c.args.name c.len-words.result c.args.pass.now.labels.entries c.insert.new.self.entries c.requires.absent c.in_ok-insert.ensures.entries in
    record {
      said = ap (λ (ls : Labels). record (said c.args.pass.now) { labels = ls })
          (new ∙ ap (λ (n : ℕ). labels_seen c.args.pass.now.labels.entries ++ (c.args.name.now, n) ∷ []) count);
    }
