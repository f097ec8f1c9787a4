use Rattle.std.proofs.Common.{ℕ, ◌≡◌, ◌*◌, ◌≤◌, ◌++◌, List, length, map, flat_map, get_or, ap, ap₂, ◌∙◌, arith}
use Rattle.tam_word.specs.Lists.{below}
use Rattle.tl0_code.specs.ThreadCode.{CodeText, Program, code_text}
use Rattle.tl0_code.specs.CodeRules.{IsChecked}
use Rattle.rv_keep.specs.Kernel.{kernel}
use Rattle.rv_keep.specs.Image.{code_insts, record_of, record_and_inlets, words_in_all, stride_of, code_table, image_words}
use Rattle.rv_keep.proofs.CheckedCode.{HeadIs, head-is}
use Rattle.rv_keep.proofs.ImageLengths.{image-long}
use Rattle.rv_gen.specs.Parts.{words_of}
use Rattle.rv_gen.proofs.Starting.{text-read}
use Rattle.rv_gen.proofs.Widest.{stride-is}
use Rattle.rv_gen.proofs.Naming.{words-whole, made, image-is}
use Rattle.rv_gen.proofs.generator.generate.Goals as goal

-- the program is the one that was checked
program-is : (c : goal.After-results) → c.program-program.result.now ≡ c.args.code.now
program-is c = c.program-program.ensures.value

-- its `main` is the code that was read
main-is : (c : goal.After-results) → c.index-codes-main.result ≡ code_text c.args.code.now c.args.code.now.main
main-is c =
    let p = c.args.code.now in
    let checked : IsChecked p = c.program-program.ensures.checked in
    text-read p.codes p.main c.index-codes-main.result checked.main (c.index-codes-main.is
    ∙ ap₂ (λ (cs : List CodeText) (n : ℕ). get_or cs n c.index-codes-main.result)
    (c.codes.ensures.value ∙ ap (λ (q : Program). q.codes) (program-is c)) (c.main.ensures.value ∙ ap (λ (q : Program). q.main) (program-is c)))

-- the bytes of a frame
stride-read : (c : goal.After-results) → c.stride_of-stride.result ≡ stride_of c.args.code.now
stride-read c = c.stride_of-stride.ensures.value ∙ ap stride_of (program-is c)

-- the params of `main`
params-are : (c : goal.After-results) → c.params.result ≡ (code_text c.args.code.now c.args.code.now.main).params
params-are c = c.params.ensures.value ∙ ap (λ (t : CodeText). t.params) (main-is c)

-- its results
results-are : (c : goal.After-results) → c.results.result ≡ (code_text c.args.code.now c.args.code.now.main).results
results-are c = c.results.ensures.value ∙ ap (λ (t : CodeText). t.results) (main-is c)

-- the words of the kernel
kernel-pushed : (c : goal.After-results) → c.push_kernel.new.words.items
    ≡ words_of (kernel (4 * words_in_all c.args.code.now) (stride_of c.args.code.now) (code_table c.args.code.now) c.args.code.now.main)
kernel-pushed c =
    let p = c.args.code.now in
    let all : c.words_in_all-all.result ≡ words_in_all p = c.words_in_all-all.ensures.value ∙ ap words_in_all (program-is c) in
    let table : c.code_table-table.result ≡ code_table p = c.code_table-table.ensures.value ∙ ap code_table (program-is c) in
    let main : c.main-2.result ≡ p.main = c.main-2.ensures.value ∙ ap (λ (q : Program). q.main) (program-is c) in
    c.in_ok-push_kernel.ensures.ok
    ∙ (ap (λ (ws : List ℕ). ws ++ words_of (kernel (4 * c.words_in_all-all.result) c.stride_of-stride.result c.code_table-table.result c.main-2.result))
    c.in_ok-words.ensures.items
    ∙ (ap₂ (λ (n s : ℕ). words_of (kernel (4 * n) s c.code_table-table.result c.main-2.result)) all (stride-read c)
    ∙ ap₂ (λ (t m : ℕ). words_of (kernel (4 * words_in_all p) (stride_of p) t m)) table main))

-- the words of the image
whole : (c : goal.After-results) → c.push_records.new.words.items ≡ image_words c.args.code.now
whole c = words-whole c.args.code.now c.push_records.new.words.items (record {
  to_kernel = c.push_kernel.new.words.items;
  to_threads = c.push_codes.new.words.items;
  to_table = c.push_table.new.words.items;
  kernel = kernel-pushed c;
  threads =
      c.in_ok-push_codes.ensures.ok
      ∙ ap (λ (q : Program). c.push_kernel.new.words.items ++ words_of (flat_map (code_insts q) (below (length q.codes)))) (program-is c);
  table =
      c.in_ok-push_table.ensures.ok
      ∙ ap (λ (q : Program). c.push_codes.new.words.items ++ map (record_of q) (below (length q.codes))) (program-is c);
  records =
      c.in_ok-push_records.ensures.ok
      ∙ ap (λ (q : Program). c.push_table.new.words.items ++ flat_map (record_and_inlets q) (below (length q.codes))) (program-is c);
})

pub of-requires : goal.of-requires
of-requires c =
    let p = c.args.code.now in
    let checked : IsChecked p = c.program-program.ensures.checked in
    let head : HeadIs (code_text p p.main) = head-is p p.main checked checked.main in
    let params : c.params.result ≡ (code_text p p.main).params = params-are c in
    let results : c.results.result ≡ (code_text p p.main).results = results-are c in
    let params_few : (code_text p p.main).params ≤ 64 = head.few_params in
    let results_few : (code_text p p.main).results ≤ 64 = head.few_results in
    let long : length c.push_records.new.words.items ≡ words_in_all p = ap (λ (ws : List ℕ). length ws) (whole c) ∙ image-long p in
    let fits : words_in_all p ≤ 16777210 = c.requires.fits in
    record {
      in_range = record {
        stride = rw (stride-read c) (stride-is p checked);
        params = omega arith;
        results = omega arith;
        some_word = omega arith;
        words = omega arith;
      };
    }

pub returns : goal.returns
returns c =
    let d = c.before in
    let p = c.args.code.now in
    record {
      value =
          c.of.ensures.value ∙ (ap₂ (λ (s a : ℕ). made s a c.results.result c.push_records.new.words.items) (stride-read d) (params-are d)
          ∙ (ap₂ (λ (b : ℕ) (ws : List ℕ). made (stride_of p) (code_text p p.main).params b ws) (results-are d) (whole d) ∙ image-is p));
    }
