-- Some lines run, and then others.
-- Assumes nothing.
use Prim.Native.Nat.{ℕ}
use mathlib.Core.Path.{◌≡◌, refl, sym, ap, ◌∙◌}
use mathlib.Core.List.{List, [], ◌∷◌, ◌++◌, append-nil, append_assoc}
use Rattle.model.specs.Sequences.{World}
use Rattle.script.specs.Program.{Ran, and_then, run_line, run_lines}

wrote : Ran → List ℕ → Ran
wrote r l = record { written = l; world = r.world; lent = r.lent }

and_assoc : (r q t : Ran) → and_then r (and_then q t) ≡ and_then (and_then r q) t
unfolding and_then wrote
and_assoc r q t = ap (wrote t) (sym (append_assoc r.written q.written t.written))

pub lines_both : (w : World) (lent : List ℕ) (xs ys : List (List ℕ))
    → run_lines w lent (xs ++ ys)
    ≡ and_then (run_lines w lent xs) (run_lines (run_lines w lent xs).world (run_lines w lent xs).lent ys)
unfolding run_lines and_then
lines_both w lent [] ys = refl
lines_both w lent (x ∷ xs) ys =
    let r = run_line w lent x in
    let q = run_lines r.world r.lent xs in
    ap (and_then r) (lines_both r.world r.lent xs ys) ∙ and_assoc r q (run_lines q.world q.lent ys)

pub one_more : (w : World) (lent : List ℕ) (xs : List (List ℕ)) (line : List ℕ)
    → and_then (run_lines w lent xs) (run_line (run_lines w lent xs).world (run_lines w lent xs).lent line)
    ≡ run_lines w lent (xs ++ line ∷ [])
unfolding run_lines and_then wrote
one_more w lent xs line =
    let r = run_lines w lent xs in
    let q = run_line r.world r.lent line in
    ap (λ (l : List ℕ). and_then r (wrote q l)) (sym (append-nil q.written)) ∙ sym (lines_both w lent xs (line ∷ []))
