-- The texts of the large inputs: a ladder of calls, and a wave of cells.
-- The rule in words: docs/FORMATS.md, "Large inputs".
use Rattle.std.specs.Prelude.{ℕ, ◌+◌, ◌<◌, ◌≤◌, nat_lt, if◌then◌else◌, List, ◌++◌, flat_map, codes, decimal}
use Rattle.tam_word.specs.Lists.{below}
use Rattle.tam_make.specs.declared.shape.Shape.{Shape}
use Rattle.tam_make.specs.declared.shape.Shape.TheVariants.{Ladder, Wave}

-- the largest number of a shape: of a ladder's codes below `main`, of a wave's rows and columns
abbrev pub largest : Shape → ℕ
largest Ladder = 200
largest Wave = 60

-- a number that the shape may have
abbrev pub IsCount : Shape → ℕ → Type 0
IsCount shape n = (0 < n) × (n ≤ largest shape)

-- ---- the ladder

-- the line that adds once more, the i-th from 0 behind the first
abbrev pub rung_text : ℕ → List ℕ
rung_text i = codes "a" ++ (decimal (i + 2) ++ (codes " = add a" ++ (decimal (i + 1) ++ codes " k\n")))

-- the lines of a call of code k, whose result is the code's
abbrev pub call_text : ℕ → List ℕ
call_text k = codes "f = call s" ++ (decimal k ++ codes "\narg f 0 a100\nr = ret f 0\nresult 0 r\nend\n")

-- how code k of n ends: it calls the next one, or is the last
abbrev pub end_text : ℕ → ℕ → List ℕ
end_text n k = if nat_lt k n then call_text (k + 1) else codes "result 0 a100\nend\n"

-- code k of n: it adds k a hundred times
abbrev pub step_text : ℕ → ℕ → List ℕ
step_text n k =
    codes "code s" ++ (decimal k ++ (codes "\nx = param 0\nk = const " ++ (decimal k ++ (codes "\na1 = add x k\n"
    ++ (flat_map rung_text (below 99) ++ end_text n k)))))

-- the ladder's `main`
abbrev pub ladder_main : List ℕ
ladder_main = codes "code main\nx = param 0\nf = call s1\narg f 0 x\nr = ret f 0\nresult 0 r\nend\n"

-- a ladder of n codes below `main`
abbrev pub ladder_text : ℕ → List ℕ
ladder_text n = codes "dg 1\n" ++ (ladder_main ++ flat_map (λ i. step_text n (i + 1)) (below n))

-- ---- the wave

-- the wave's `main`: it makes an array of arrays, begins the rows, and gives the last cell of the last one
abbrev pub wave_main : List ℕ
wave_main =
    codes "code main\nn = param 0\nB:2 = alloc n\nz = const 0\nr = call rows\narg r 0 B\narg r 1 n\narg r 2 z\none = const 1\n"
    ++ codes "l = sub n one\nA:1 = fetch B l\nv = fetch A l\nresult 0 v\nend\n"

-- its code of a row: it makes an array, begins its cells, and begins the next row
abbrev pub wave_rows : List ℕ
wave_rows =
    codes "code rows\nB:2 = param 0\nn = param 1\ni = param 2\nmore = sltu i n\nc = cond more\nb:2 = in 0\nm = in 1\nk = in 2\n"
    ++ (codes "R:1 = alloc m\nstore b k R\nz = const 0\nq = call cols\narg q 0 b\narg q 1 R\narg q 2 m\narg q 3 k\narg q 4 z\n"
    ++ (codes "one = const 1\nk1 = add k one\nt = call rows\narg t 0 b\narg t 1 m\narg t 2 k1\nelse\nb0:2 = in 0\nm0 = in 1\n"
    ++ codes "k0 = in 2\nend\nswitch c 0 B\nswitch c 1 n\nswitch c 2 i\nend\n"))

-- its code of a cell: 1 at an edge, else the sum of the cell above it and the cell before it; and it begins the next cell
abbrev pub wave_cols : List ℕ
wave_cols =
    codes "code cols\nB:2 = param 0\nR:1 = param 1\nn = param 2\ni = param 3\nj = param 4\nmore = sltu j n\nc = cond more\n"
    ++ (codes "b:2 = in 0\nr:1 = in 1\nm = in 2\ny = in 3\nx = in 4\ninner = mul y x\nd = cond inner\nb1:2 = in 0\nr1:1 = in 1\n"
    ++ (codes "y1 = in 2\nx1 = in 3\nk1 = const 1\nup = sub y1 k1\nU:1 = fetch b1 up\nu = fetch U x1\nleft = sub x1 k1\n"
    ++ (codes "w = fetch r1 left\ns = add u w\nout 0 s\nelse\nb2:2 = in 0\nr2:1 = in 1\ny2 = in 2\nx2 = in 3\nk2 = const 1\n"
    ++ (codes "out 0 k2\nend\nswitch d 0 b\nswitch d 1 r\nswitch d 2 y\nswitch d 3 x\nv = merge d 0\nstore r x v\nk3 = const 1\n"
    ++ (codes "x3 = add x k3\nt = call cols\narg t 0 b\narg t 1 r\narg t 2 m\narg t 3 y\narg t 4 x3\nelse\nb4:2 = in 0\nr4:1 = in 1\n"
    ++ codes "n4 = in 2\ni4 = in 3\nj4 = in 4\nend\nswitch c 0 B\nswitch c 1 R\nswitch c 2 n\nswitch c 3 i\nswitch c 4 j\nend\n")))))

-- the whole of it
abbrev pub wave_text : List ℕ
wave_text = codes "dg 1\n" ++ (wave_main ++ (wave_rows ++ wave_cols))

-- ---- the text

-- the text of a shape and a number; the wave's is the same for each
abbrev pub made_text : Shape → ℕ → List ℕ
made_text Ladder n = ladder_text n
made_text Wave n = wave_text
