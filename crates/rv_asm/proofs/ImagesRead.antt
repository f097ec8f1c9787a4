-- What assembles reads as its image and as no other.
use Rattle.std.proofs.Common.{◌≡◌, ℕ, List, [], length, map, sym, ap, subst, ◌∙◌}
use Rattle.rv_inst.specs.Images.{Image}
use Rattle.rv_image.specs.ImageFiles.{IsImage}
use Rattle.rv_asm.specs.declared.pass.Pass.{Pass}
use Rattle.rv_asm.specs.declared.pass.Placed.{Placed as PlacedAt}
use Rattle.rv_asm.specs.Faults.{Said, said_in, first_faults}
use Rattle.rv_asm.specs.Reading.{words_at, AsmReads}
use Rattle.rv_asm.specs.Sound.{codes_of, all_there}
use Rattle.rv_asm.specs.PassView.{said, labels_seen, placed_seen}
use Rattle.rv_asm.proofs.Assembled.{in_image}
use Rattle.rv_asm.proofs.TextsRead.{image_of, reads, one_image}

module _ (text : List ℕ) (pass : Pass) (first : first_faults text ≡ []) (all : said pass ≡ said_in text) (ps : List PlacedAt) (ws : List ℕ)
    (is : ps ≡ pass.words.items) (len : length ws ≡ length ps)
    (there : all_there ws ≡ words_at (labels_seen pass.labels.entries) 0 (codes_of (map placed_seen ps)))
    (image : Image) (made : image ≡ image_of (said pass) ws) where
  -- it reads as the image
  pub read_image : AsmReads text image
  read_image =
      let words : all_there ws ≡ words_at (said_in text).labels 0 (codes_of (said_in text).words) =
      there ∙ ap (λ (qs : List PlacedAt). words_at (labels_seen pass.labels.entries) 0 (codes_of (map placed_seen qs))) is
      ∙ ap (λ (z : Said). words_at z.labels 0 (codes_of z.words)) all in
      let in_range : IsImage (image_of (said_in text) ws) = subst (λ (z : Said). IsImage (image_of z ws)) all (in_image text pass first all ps ws is len) in
      let whole : AsmReads text (image_of (said pass) ws) = subst (λ (z : Said). AsmReads text (image_of z ws)) (sym all)
      (reads text ws first words in_range) in
      subst (λ (i : Image). AsmReads text i) (sym made) whole

  -- and as no other
  pub only_image : (other : Image) → AsmReads text other → image ≡ other
  only_image other g = one_image text image other read_image g
