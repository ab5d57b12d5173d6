-- How large the numbers of a run are at most: those of its log, and its two counts. Assumes nothing.
use mathlib.Core.Bool.{Bool}
use mathlib.Core.List.{List, [], ◌∷◌}
use Prim.Native.Nat.{ℕ, zero, suc, ◌+◌, ◌*◌, ◌/◌, ◌<◌, ◌≤◌}
use native.Mathlib.Omega.{arith}
use native.Mathlib.Decide.{dec_lt}
use lib.Dec.{eqb}
use lib.ListN.{length, get_or, get_or-eq_default}
use lib.Seq.{get_or-drop}
use Rattle.protocol.specs.Runs.{Line}
use Rattle.protocol.proofs.SmallNumbers.{SmallActions, SmallLines, fresh_log_small}
use Rattle.sessions.specs.File.{Below, le32, values, action_at, actions, rule_in, boards_in, cells_in, starting_in, records_in, records_at}
use Rattle.sessions.specs.Run.{actions_of, log_of, accepted_in, count_below, sum_below, stale_in, stale_of}
use Rattle.sessions.proofs.BytesLaws.{length_starting}
use Rattle.sessions.proofs.RunLaws.{one_at_most}

-- ---- the numbers of a file of bytes

-- beyond its end a file reads as 0
byte_at : (file : List ℕ) → Below 256 file → (i : ℕ) → get_or file i 0 < 256
byte_at file b i = go (dec_lt i (length file))
  where
    go : Dec (i < length file) → get_or file i 0 < 256
    go (yes h) = b i h
    go (no h) = let beyond : length file ≤ i = omega arith in rw (get_or-eq_default file 0 beyond) (omega arith)

module _ (s : List ℕ) (b : (i : ℕ) → get_or s i 0 < 256) where
  le32_small : (at : ℕ) → le32 s at < 4294967296
  unfolding le32
  le32_small at = omega (arith, b at, b (at + 1), b (at + 2), b (at + 3))

  values_small : (at n c : ℕ) → get_or (values s at n) c 0 < 4294967296
  unfolding values
  values_small at zero c = omega arith
  values_small at (suc n) zero = le32_small at
  values_small at (suc n) (suc c) = values_small (at + 4) n c

  actions_small : (at n : ℕ) → SmallActions 4294967296 (actions s at n)
  unfolding actions action_at
  actions_small at zero = tt
  actions_small at (suc n) = (b at, le32_small (at + 5), actions_small (at + 9) n)

pub log_of_bytes : (file : List ℕ) → Below 256 file → SmallLines 4294967296 (log_of file)
unfolding log_of
log_of_bytes file b =
    rw (length_starting file) at
    (fresh_log_small 4294967296 (rule_in file) (boards_in file) (starting_in file) (actions_of file) (omega arith) (values_small file bytes 9 (cells_in file)) (actions_small (records_in file) in_records 0 (length (records_in file) / 9)))
  where
    bytes : (i : ℕ) → get_or file i 0 < 256
    bytes = byte_at file b

    in_records : (i : ℕ) → get_or (records_in file) i 0 < 256
    in_records i = rw (get_or-drop (records_at (cells_in file)) file i 0) (bytes (records_at (cells_in file) + i))

-- ---- the counts

pub accepted_at_most : (ls : List Line) → accepted_in ls ≤ length ls
unfolding accepted_in
accepted_at_most [] = omega arith
accepted_at_most (l ∷ ls) = omega (arith, one_at_most (eqb l.told.number 0), accepted_at_most ls)

count_at_most : (n : ℕ) (test : ℕ → Bool) → count_below n test ≤ n
unfolding count_below
count_at_most zero test = omega arith
count_at_most (suc n) test = omega (arith, one_at_most (test n), count_at_most n test)

sum_at_most : (n most : ℕ) (count : ℕ → ℕ) → ((c : ℕ) → count c ≤ most) → sum_below n count ≤ n * most
unfolding sum_below
sum_at_most zero most count h = omega arith
sum_at_most (suc n) most count h = omega (arith, h n, sum_at_most n most count h)

-- a copy is stale once
pub stale_at_most : (file : List ℕ) → stale_of file ≤ cells_in file * boards_in file
unfolding stale_of stale_in
stale_at_most file = sum_at_most (cells_in file) (boards_in file) _ (λ c. count_at_most (boards_in file) _)
