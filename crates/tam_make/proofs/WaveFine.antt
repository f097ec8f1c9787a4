-- Each code of the wave is fine.
use Rattle.std.proofs.Common.{ℕ, zero, suc, ◌<◌, refl, arith}
use Rattle.tam_graph.specs.Graphs.{code_of}
use Rattle.tam_make.proofs.Fine.{IsFine, HasFineCodes}
use Rattle.tam_make.proofs.WaveGraph.{main_code, rows_code, cols_code, wave_graph}

-- its `main`
main-fine : IsFine wave_graph 0 main_code
main-fine = record {
  of_text = record {
    written = record {
      nodes_in_order = refl;
      blocks_in_order = refl;
      lines = refl;
      depths = refl;
      shallow = refl;
      small_blocks = refl;
      small = refl;
    };
    named = refl;
    nodes_named = refl;
    nodes_differ = refl;
  };
  short = refl;
  rules = refl;
  plain = refl;
  rising = refl;
}

-- its code of a row
rows-fine : IsFine wave_graph 1 rows_code
rows-fine = record {
  of_text = record {
    written = record {
      nodes_in_order = refl;
      blocks_in_order = refl;
      lines = refl;
      depths = refl;
      shallow = refl;
      small_blocks = refl;
      small = refl;
    };
    named = refl;
    nodes_named = refl;
    nodes_differ = refl;
  };
  short = refl;
  rules = refl;
  plain = refl;
  rising = refl;
}

-- its code of a cell
cols-fine : IsFine wave_graph 2 cols_code
cols-fine = record {
  of_text = record {
    written = record {
      nodes_in_order = refl;
      blocks_in_order = refl;
      lines = refl;
      depths = refl;
      shallow = refl;
      small_blocks = refl;
      small = refl;
    };
    named = refl;
    nodes_named = refl;
    nodes_differ = refl;
  };
  short = refl;
  rules = refl;
  plain = refl;
  rising = refl;
}

-- each of them
code-fine : (m : ℕ) → m < 3 → IsFine wave_graph m (code_of wave_graph m)
code-fine zero l = main-fine
code-fine (suc zero) l = rows-fine
code-fine (suc (suc zero)) l = cols-fine
code-fine (suc (suc (suc m))) l = absurd (omega arith)

-- so its codes are fine
pub wave-fine : HasFineCodes wave_graph
wave-fine = record { main = refl; has_main = refl; few = refl; differ = refl; each = code-fine }
