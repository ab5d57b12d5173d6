-- Demand 3, order, for runs: two files whose records are the same in the same order for each cell number. Assumes nothing.
use mathlib.Core.Path.{◌≡◌, refl, sym, ap, ◌∙◌, fun_ext}
use mathlib.Core.Bool.{Bool, true, false, cond, ◌&&◌}
use mathlib.Core.List.{List, [], ◌∷◌, ◌++◌, map}
use Prim.Native.Nat.{ℕ, zero, suc, ◌+◌, ◌<◌, ◌≤◌}
use native.Mathlib.Omega.{arith}
use native.Mathlib.Decide.{ℕ_discrete}
use lib.Dec.{eqb}
use lib.ListN.{get_or}
use borrow.Author.Tests.{eq-eqb, ne_eqb, eqb-true}
use Rattle.protocol.specs.declared.Action.{Action}
use Rattle.protocol.specs.Slices.{Slice, Table}
use Rattle.protocol.specs.Step.{seen, answer_by, table_after}
use Rattle.protocol.specs.Fresh.{fresh_table}
use Rattle.protocol.specs.Runs.{Line, line_of, log_by, log, table_after_all, followed, written, written_after, latest_write, naming}
use Rattle.protocol.proofs.StepLaws.{accepted}
use Rattle.protocol.proofs.Demand3Order.{same_answers, same_end}
use Rattle.sessions.specs.File.{rule_in, boards_in, cells_in, starting_in}
use Rattle.sessions.specs.Run.{actions_of, log_of, end_of, accepted_in, sum_below, stale_of, cell_of_line, Alike, told_in}
use Rattle.sessions.specs.Statements.{Runs, RunReply}
use Rattle.sessions.proofs.RunPromises.{none_summed}

-- ---- what is counted of a log, cell by cell

-- the latest accepted write to a cell is that among the lines that name it
latest_of_cell : (cell v : ℕ) (ls : List Line) → latest_write cell v ls ≡ latest_write cell v (naming cell_of_line cell ls)
unfolding latest_write followed naming
latest_of_cell cell v [] = refl
latest_of_cell cell v (l ∷ ls) = go (eqb (cell_of_line l) cell) refl (latest_of_cell cell (written_after cell v l) ls) (latest_of_cell cell v ls)
  where
    unwritten : (b : Bool) → cond (b && false) (written v l.action) v ≡ v
    unwritten true = refl
    unwritten false = refl

    go : (b : Bool) → eqb (cell_of_line l) cell ≡ b →
        latest_write cell (written_after cell v l) ls ≡ latest_write cell (written_after cell v l) (naming cell_of_line cell ls) →
        latest_write cell v ls ≡ latest_write cell v (naming cell_of_line cell ls) →
        latest_write cell (written_after cell v l) ls ≡ latest_write cell v (cond b (l ∷ naming cell_of_line cell ls) (naming cell_of_line cell ls))
    go true e i j = i
    go false e i j = rw (e, unwritten (eqb l.told.number 0)) j

sum_both : (n : ℕ) (f g : ℕ → ℕ) → sum_below n (λ k. f k + g k) ≡ sum_below n f + sum_below n g
unfolding sum_below
sum_both zero f g = refl
sum_both (suc n) f g = omega (arith, sum_both n f g)

sum_none : (n cell v : ℕ) → n ≤ cell → sum_below n (λ k. cond (eqb cell k) v 0) ≡ 0
unfolding sum_below
sum_none zero cell v h = refl
sum_none (suc n) cell v h = rw (ne_eqb cell n (omega arith)) (omega (arith, sum_none n cell v (omega arith)))

-- over all cells, what stands at one of them
sum_at : (n cell v : ℕ) → cell < n → sum_below n (λ k. cond (eqb cell k) v 0) ≡ v
unfolding sum_below
sum_at zero cell v h = absurd (omega arith)
sum_at (suc n) cell v h = elim (ℕ_discrete cell n) [
  | yes e ↦ rw (eq-eqb cell n e) (omega (arith, sum_none n cell v (omega arith)))
  | no d ↦ rw (ne_eqb cell n d) (omega (arith, sum_at n cell v (omega arith)))
]

-- every accepted line names a cell below n
abbrev Inside : (n : ℕ) → List Line → Type 0
Inside n [] = Unit {0}
Inside n (l ∷ ls) = (l.told.number ≡ 0 → cell_of_line l < n) × Inside n ls

accepted_of_cells : (n : ℕ) (ls : List Line) → Inside n ls → sum_below n (λ k. accepted_in (naming cell_of_line k ls)) ≡ accepted_in ls
unfolding accepted_in naming
accepted_of_cells n [] h = none_summed n (λ k. 0) (λ k h. refl)
accepted_of_cells n (l ∷ ls) h =
    ap (sum_below n) (fun_ext (λ k. split k (eqb (cell_of_line l) k)))
    ∙ sum_both n (λ k. cond (eqb (cell_of_line l) k) one 0) (λ k. accepted_in (naming cell_of_line k ls))
    ∙ rw (accepted_of_cells n ls h.1, counted (eqb l.told.number 0) refl)
  where
    one : ℕ
    one = cond (eqb l.told.number 0) 1 0

    split : (k : ℕ) (b : Bool) →
        accepted_in (cond b (l ∷ naming cell_of_line k ls) (naming cell_of_line k ls)) ≡ cond b one 0 + accepted_in (naming cell_of_line k ls)
    split k true = refl
    split k false = omega arith

    counted : (b : Bool) → eqb l.told.number 0 ≡ b → sum_below n (λ k. cond (eqb (cell_of_line l) k) (cond b 1 0) 0) ≡ cond b 1 0
    counted true e = sum_at n (cell_of_line l) 1 (h.0 (eqb-true _ _ e))
    counted false e = none_summed n _ (λ k h. nought (eqb (cell_of_line l) k))
      where
        nought : (b : Bool) → cond {A = ℕ} b 0 0 ≡ 0
        nought true = refl
        nought false = refl

log_inside : (rule boards cells : ℕ) (t : Table) (l : List Action) → Inside cells (log rule boards cells t l)
unfolding log_by answer_by
log_inside rule boards cells t [] = tt
log_inside rule boards cells t (a ∷ l) =
    ((λ e. (accepted rule boards cells (seen boards cells t a.cell) a e).inside), log_inside rule boards cells (table_after rule boards cells t a) l)

inside : (file : List ℕ) → Inside (cells_in file) (log_of file)
unfolding log_of
inside file = log_inside (rule_in file) (boards_in file) (cells_in file) (fresh_table (boards_in file) (starting_in file)) (actions_of file)

-- ---- of two files

module _ (file other : List ℕ) (alike : Alike file other) where
  abbrev start : Table
  start = fresh_table (boards_in other) (starting_in other)

  -- the two run alike under one list of actions
  log_alike : (l : List Action) →
      log (rule_in file) (boards_in file) (cells_in file) (fresh_table (boards_in file) (starting_in file)) l
      ≡ log (rule_in other) (boards_in other) (cells_in other) start l
  log_alike l = rw (alike.same_starting, alike.same_rule, alike.same_boards, alike.same_cells)

  end_alike : (l : List Action) →
      table_after_all (rule_in file) (boards_in file) (cells_in file) (fresh_table (boards_in file) (starting_in file)) l
      ≡ table_after_all (rule_in other) (boards_in other) (cells_in other) start l
  end_alike l = rw (alike.same_starting, alike.same_rule, alike.same_boards, alike.same_cells)

  -- each record is answered alike: for each cell number, the lines of the two logs that name it are the same
  pub same_log : (cell : ℕ) → naming cell_of_line cell (log_of file) ≡ naming cell_of_line cell (log_of other)
  unfolding log_of
  same_log cell =
      rw (log_alike (actions_of file))
      (same_answers (rule_in other) (boards_in other) (cells_in other) start (actions_of file) (actions_of other) alike.same_order cell)

  pub same_table : end_of file ≡ end_of other
  unfolding end_of
  same_table =
      end_alike (actions_of file)
      ∙ same_end (rule_in other) (boards_in other) (cells_in other) start (actions_of file) (actions_of other) alike.same_order

  pub same_accepted : accepted_in (log_of file) ≡ accepted_in (log_of other)
  same_accepted =
      sym (accepted_of_cells (cells_in file) (log_of file) (inside file))
      ∙ ap (sum_below (cells_in file)) (fun_ext (λ k. ap accepted_in (same_log k)))
      ∙ rw alike.same_cells (accepted_of_cells (cells_in other) (log_of other) (inside other))

  pub same_stale : stale_of file ≡ stale_of other
  unfolding stale_of
  same_stale = rw (same_table, fun_ext latest, alike.same_boards, alike.same_cells)
    where
      latest : (c : ℕ) → latest_write c (get_or (starting_in file) c 0) (log_of file) ≡ latest_write c (get_or (starting_in other) c 0) (log_of other)
      latest c = latest_of_cell c _ (log_of file) ∙ rw (same_log c, alike.same_starting) (sym (latest_of_cell c _ (log_of other)))

-- ---- of two runs that are not refused

told_log : (rule boards cells : ℕ) (t : Table) (l : List Action) (x y : List ℕ) →
    told_in (map (λ (line : Line). line.told.number) (log rule boards cells t l) ++ x)
    (map (λ (line : Line). line.told.value) (log rule boards cells t l) ++ y) l
    ≡ log rule boards cells t l
unfolding told_in log_by
told_log rule boards cells t [] x y = refl
told_log rule boards cells t (a ∷ l) x y =
    ap (λ (ls : List Line). line_of rule boards cells t a ∷ ls) (told_log rule boards cells (table_after rule boards cells t a) l x y)

-- the answer slices of a run tell its log
told_all : (file : List ℕ) (t : Table) (numbers values : List ℕ) (r : RunReply) (t' : Table) (numbers' values' : List ℕ) →
    Runs file t numbers values r t' numbers' values' → r.number ≡ 0 →
    told_in numbers' values' (actions_of file) ≡ log_of file
unfolding log_of
told_all file t numbers values r t' numbers' values' s ok =
    let z = eq-eqb r.number 0 ok in
    let n = rw z at s.numbers_are in
    let v = rw z at s.values_are in
    rw (n, v) (told_log (rule_in file) (boards_in file) (cells_in file) (fresh_table (boards_in file) (starting_in file)) (actions_of file) _ _)

module _ (file : List ℕ) (t : Table) (numbers values : List ℕ) (r : RunReply) (t₁ : Table) (numbers₁ values₁ : List ℕ)
    (s : Runs file t numbers values r t₁ numbers₁ values₁) (ok : r.number ≡ 0)
    (other : List ℕ) (t' : Table) (numbers' values' : List ℕ) (r' : RunReply) (t₂ : Table) (numbers₂ values₂ : List ℕ)
    (s' : Runs other t' numbers' values' r' t₂ numbers₂ values₂) (ok' : r'.number ≡ 0)
    (alike : Alike file other) where
  -- for each cell number, the two callers are told the same of the records that name it
  pub runs_answer_alike : (cell : ℕ) →
      naming cell_of_line cell (told_in numbers₁ values₁ (actions_of file)) ≡ naming cell_of_line cell (told_in numbers₂ values₂ (actions_of other))
  runs_answer_alike cell =
      rw (told_all file t numbers values r t₁ numbers₁ values₁ s ok, told_all other t' numbers' values' r' t₂ numbers₂ values₂ s' ok')
      (same_log file other alike cell)

  pub runs_end_alike : (k : Slice) → t₁ k ≡ t₂ k
  runs_end_alike k =
      let a = rw (eq-eqb r.number 0 ok) at s.table_is in
      let b = rw (eq-eqb r'.number 0 ok') at s'.table_is in
      a k ∙ ap (λ (u : Table). u k) (same_table file other alike) ∙ sym (b k)

  pub runs_count_alike : (r.accepted ≡ r'.accepted) × (r.stale ≡ r'.stale)
  runs_count_alike =
      let z = eq-eqb r.number 0 ok in
      let z' = eq-eqb r'.number 0 ok' in (
        rw z at s.accepted_is ∙ same_accepted file other alike ∙ sym (rw z' at s'.accepted_is),
        rw z at s.stale_is ∙ same_stale file other alike ∙ sym (rw z' at s'.stale_is),
      )
