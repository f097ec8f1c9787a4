-- The image of the header and of the words behind it.
use Rattle.std.proofs.Common.{◌≡◌, ◌∙◌, sym, subst, arith}
use Rattle.rv_inst.specs.Images.{Image}
use Rattle.rv_image.specs.ImageFiles.{IsImage, image_bytes}
use Rattle.rv_image.proofs.ImageLemmas.{image-made}
use Rattle.rv_image.proofs.reader.read_faultless.Goals as goal

pub of-requires : goal.of-requires
of-requires c =
    record {
      in_range = (image-made c.args.bytes.now c.in_ok-words.words.items c.word_at-stride.result c.word_at-params.result c.word_at-results.result
          (λ k. omega (arith, c.type_inv.bytes k)) c.requires.faultless (c.in_ok-words.ensures.value ∙ c.split_at.ensures.back)
          c.word_at-stride.ensures.value c.word_at-params.ensures.value c.word_at-results.ensures.value).0;
    }

pub returns : goal.returns
returns c =
    record {
      value = subst (λ (i : Image). (IsImage i × (c.args.bytes.now ≡ image_bytes i))) (sym c.of.ensures.value)
          (image-made c.args.bytes.now c.in_ok-words.words.items c.word_at-stride.result c.word_at-params.result c.word_at-results.result
          (λ k. omega (arith, c.type_inv.bytes k)) c.requires.faultless (c.in_ok-words.ensures.value ∙ c.split_at.ensures.back)
          c.word_at-stride.ensures.value c.word_at-params.ensures.value c.word_at-results.ensures.value);
    }
