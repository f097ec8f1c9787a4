-- The wave's text is its graph's canonical text.
use Rattle.std.proofs.Common.{◌≡◌, ◌∙◌, ℕ, List, [], ◌++◌, refl, ap}
use Rattle.std.specs.Prelude.{codes, decimal}
use Rattle.tam_graph.specs.Graphs.{Code, code_of}
use Rattle.tam_graph.specs.Texts.{canonical}
use Rattle.tam_print.specs.PrintedLines.{code_text}
use Rattle.tam_print.proofs.Texts.{canonical-is}
use Rattle.tam_make.specs.MadeTexts.{wave_main, wave_rows, wave_cols, wave_text}
use Rattle.tam_make.proofs.Digits.{digits, decimal-digits}
use Rattle.tam_make.proofs.TextWith.{text_with, signed_with}
use Rattle.tam_make.proofs.WaveGraph.{main_code, rows_code, cols_code, wave_graph}

-- a code's text, with the decimals left open
abbrev wave_with : (ℕ → List ℕ) → Code → List ℕ
wave_with number c = text_with number (signed_with number) (λ d. (code_of wave_graph d).name) c

-- its `main`
main-text : code_text wave_graph main_code ≡ wave_main
main-text =
    let open_text : code_text wave_graph main_code ≡ wave_with decimal main_code = refl in
    let closed : wave_with digits main_code ≡ wave_main = refl in open_text ∙ ap (λ f. wave_with f main_code) decimal-digits ∙ closed

-- its code of a row
rows-text : code_text wave_graph rows_code ≡ wave_rows
rows-text =
    let open_text : code_text wave_graph rows_code ≡ wave_with decimal rows_code = refl in
    let closed : wave_with digits rows_code ≡ wave_rows = refl in open_text ∙ ap (λ f. wave_with f rows_code) decimal-digits ∙ closed

-- its code of a cell
cols-text : code_text wave_graph cols_code ≡ wave_cols
cols-text =
    let open_text : code_text wave_graph cols_code ≡ wave_with decimal cols_code = refl in
    let closed : wave_with digits cols_code ≡ wave_cols = refl in open_text ∙ ap (λ f. wave_with f cols_code) decimal-digits ∙ closed

-- the whole text
pub wave-text : canonical wave_graph ≡ wave_text
wave-text =
    canonical-is wave_graph
    ∙ ap (λ l. codes "dg 1\n" ++ (l ++ (code_text wave_graph rows_code ++ (code_text wave_graph cols_code ++ [])))) main-text
    ∙ ap (λ l. codes "dg 1\n" ++ (wave_main ++ (l ++ (code_text wave_graph cols_code ++ [])))) rows-text
    ∙ ap (λ l. codes "dg 1\n" ++ (wave_main ++ (wave_rows ++ (l ++ [])))) cols-text
