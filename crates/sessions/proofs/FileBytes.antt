-- What a file's bytes say, in words: each starting value and each record by its raw bytes. Assumes nothing.
use mathlib.Core.Path.{◌≡◌, refl, ap, ◌∙◌}
use mathlib.Core.List.{List}
use Prim.Native.Nat.{ℕ, zero, suc, ◌+◌, ◌*◌, ◌<◌}
use native.Mathlib.Omega.{arith}
use lib.ListN.{get_or, drop}
use lib.Seq.{get_or-drop}
use Rattle.sessions.specs.File.{le16, le32, values, cells_in, starting_in, action_at}
use Rattle.sessions.specs.FileRefusals.{count_in}
use Rattle.sessions.specs.FileWords.{cells_bytes, value_bytes, record_bytes}
use Rattle.sessions.specs.Run.{line_of_record}
use Rattle.sessions.proofs.LogLaws.{its_action}

value_at : (s : List ℕ) (at n c : ℕ) → c < n → get_or (values s at n) c 0 ≡ value_bytes s (at + 4 * c)
unfolding values le32
value_at s at zero c h = absurd (omega arith)
value_at s at (suc n) zero h = let e : at ≡ at + 4 * 0 = omega arith in ap (value_bytes s) e
value_at s at (suc n) (suc c) h = let e : at + 4 + 4 * c ≡ at + 4 * suc c = omega arith in value_at s (at + 4) n c (omega arith) ∙ ap (value_bytes s) e

module _ (file : List ℕ) where
  pub starting_bytes : (c : ℕ) → c < cells_bytes file → get_or (starting_in file) c 0 ≡ value_bytes file (9 + 4 * c)
  unfolding le16
  starting_bytes c h = value_at file 9 (cells_in file) c h

  -- the action of the i-th line of the log
  pub as_record_bytes : (i : ℕ) → i < count_in file → (line_of_record file i).action ≡ record_bytes file (9 + 4 * cells_bytes file + 9 * i)
  unfolding le16 le32 action_at
  as_record_bytes i h =
      let from = 9 + 4 * cells_in file in
      let byte : (k : ℕ) (at at' : ℕ) → at ≡ 9 * i + k → at' ≡ from + 9 * i + k → get_or (drop from file) at 0 ≡ get_or file at' 0 =
      λ k at at' e f. let g : from + at ≡ at' = omega (arith, e, f) in get_or-drop from file at 0 ∙ ap (λ (n : ℕ). get_or file n 0) g in
      let one : (k : ℕ) → get_or (drop from file) (9 * i + k) 0 ≡ get_or file (from + 9 * i + k) 0 = λ k. byte k (9 * i + k) (from + 9 * i + k) refl refl in
      let two : (k j : ℕ) → get_or (drop from file) (9 * i + k + j) 0 ≡ get_or file (from + 9 * i + k + j) 0 =
      λ k j. byte (k + j) (9 * i + k + j) (from + 9 * i + k + j) (omega arith) (omega arith) in
      its_action file i h ∙ rw (get_or-drop from file (9 * i) 0, one 1, one 2, one 3, byte 4 (9 * i + 3 + 1) (from + 9 * i + 4) (omega arith) refl, one 5, two 5 1, two 5 2, two 5 3)
