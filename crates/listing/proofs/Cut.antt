-- A file that is cut behind 38,922 bytes or more has the listing of the whole file. Assumes nothing.
use mathlib.Core.Path.{◌≡◌, refl, ap}
use mathlib.Core.Logic.{◌≢◌}
use mathlib.Core.Bool.{Bool, true, false, cond, not, ◌||◌}
use mathlib.Core.List.{List}
use Prim.Native.Nat.{ℕ, ◌+◌, ◌-◌, ◌/◌, ◌%◌, ◌<◌, ◌≤◌}
use native.Mathlib.Omega.{arith}
use native.Mathlib.Decide.{dec_lt}
use borrow.Author.Tests.{eqb-true, lt-ltb, le-ltb, ne_eqb, not-false}
use lib.Dec.{eqb, ltb}
use lib.ListN.{length, take}
use lib.Seq.{length-take-le, take_all, get_or-take}
use Rattle.protocol.specs.Slices.{in_range}
use Rattle.protocol.proofs.Booleans.{clash, either, or_left}
use Rattle.protocol.proofs.InWords.{range_exactly}
use Rattle.sessions.specs.File.{le16, marked, version_in, rule_in, boards_in, cells_in, records_at}
use Rattle.sessions.specs.FileRefusals.{head_refusals, body_refusals, records_bad, body_bad, read_refusals}
use Rattle.sessions.proofs.AcceptedLaws.{readable}
use Rattle.listing.specs.Listing.{refusal_of, listing_of}

-- ---- a file of 38,922 bytes and more

-- 4,096 records have 36,864 bytes: a byte more is "a part of a record at the end, or over 4,096 records"
too_many : (n : ℕ) → 36865 ≤ n → records_bad n ≡ true
unfolding records_bad
too_many n h = (either (not (eqb (n % 9) 0)) (ltb 4096 (n / 9))).1 (λ e. let z : n % 9 ≡ 0 = eqb-true (n % 9) 0 (not-false (eqb (n % 9) 0) e) in lt-ltb 4096 (n / 9) (omega arith))

module _ (file : List ℕ) (long : 38922 ≤ length file) where
  -- the first nine bytes and 512 starting values are 2,057
  body_too_long : cells_in file ≤ 512 → body_bad file ≡ true
  unfolding body_bad
  body_too_long c = rw (le-ltb (length file) (records_at (cells_in file)) (omega arith)) (too_many (length file - (records_at (cells_in file))) (omega arith))

  refused : refusal_of file ≢ 0
  refused e =
      let y = (readable file (cells_in file)).0 e in
      clash (too_many (length file - (records_at (cells_in file))) (omega (arith, y.sizes.few_cells))) y.recorded

-- ---- a file, and what is left of it

-- the order past the nine bytes, where two bodies are judged alike unless the sizes refuse
same_order : (mark version sizes ruled body body' : Bool) → (sizes ≡ false → body ≡ body') →
    ◌≡◌ {A = ℕ} (cond mark 17 (cond version 18 (cond sizes 1 (cond ruled 2 (cond body 19 0))))) (cond mark 17 (cond version 18 (cond sizes 1 (cond ruled 2 (cond body' 19 0)))))
same_order mark version true ruled body body' h = refl
same_order mark version false ruled body body' h = rw (h refl)

module _ (n : ℕ) (file : List ℕ) (long : 38922 ≤ n) (cut : n ≤ length file) where
  abbrev kept : List ℕ
  kept = take n file

  left : length kept ≡ n
  left = length-take-le n file cut

  same_mark : marked kept ≡ marked file
  unfolding marked
  same_mark = rw (get_or-take n file 0 0 (omega arith), get_or-take n file 1 0 (omega arith), get_or-take n file 2 0 (omega arith))

  same_number : (at : ℕ) → at < 8 → le16 kept at ≡ le16 file at
  unfolding le16
  same_number at h = rw (get_or-take n file at 0 (omega arith), get_or-take n file (at + 1) 0 (omega arith))

  -- the order up to the rule looks at the first nine bytes alone
  refused_alike : refusal_of kept ≡ refusal_of file
  unfolding read_refusals head_refusals body_refusals
  refused_alike =
      rw (le-ltb (length kept) 9 (omega (arith, left)), le-ltb (length file) 9 (omega arith), same_mark, same_number 3 (omega arith), same_number 7 (omega arith), get_or-take n file 5 0 (omega arith), get_or-take n file 6 0 (omega arith))
      (same_order (not (marked file)) (not (eqb (version_in file) 1)) (not ranged || not matching) (ltb 4 (rule_in file)) (body_bad kept) (body_bad file) both_bad)
    where
      ranged : Bool
      ranged = in_range (boards_in file) (cells_in file)

      matching : Bool
      matching = eqb (cells_in file) (cells_in file)

      both_bad : (not ranged || not matching) ≡ false → body_bad kept ≡ body_bad file
      both_bad e =
          let c = ((range_exactly (boards_in file) (cells_in file)).0 (not-false ranged (or_left (not ranged) (not matching) e))).1.1 in
          rw (body_too_long kept (omega (arith, left)) (omega (arith, same_number 7 (omega arith))), body_too_long file (omega arith) c)

  cut_alike : listing_of kept ≡ listing_of file
  unfolding listing_of
  cut_alike = rw (refused_alike, ne_eqb (refusal_of file) 0 (refused file (omega arith)))

-- 38,922 is one more than the longest accepted file has: 9 + 4 x 512 + 9 x 4,096
pub cut_lists_alike : (n : ℕ) (file : List ℕ) → 38922 ≤ n → listing_of (take n file) ≡ listing_of file
cut_lists_alike n file long = go (dec_lt (length file) n)
  where
    go : Dec (length file < n) → listing_of (take n file) ≡ listing_of file
    go (yes h) = ap listing_of (take_all n file (omega arith))
    go (no h) = cut_alike n file long (omega arith)
