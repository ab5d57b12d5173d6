-- Laws of the refusals of a file: two lists one behind the other, for the reader, the run and the writer. Assumes nothing.
use mathlib.Core.Path.{◌≡◌, refl, sym, ◌∙◌}
use mathlib.Core.Logic.{◌≢◌, ◌⊎◌, inl, inr}
use mathlib.Core.Bool.{Bool, true, false, not, cond, ◌||◌}
use mathlib.Core.List.{List, [], ◌∷◌, ◌++◌}
use Prim.Native.Nat.{ℕ, ◌+◌, ◌/◌, ◌<◌, ◌≤◌}
use lib.Dec.{eqb, ltb}
use lib.ListN.{length}
use borrow.Author.Tests.{ltb-false, lt-ltb, le-ltb}
use Rattle.std.specs.Prelude.{Ok}
use Rattle.protocol.specs.declared.Refused.{Refused}
use Rattle.protocol.specs.First.{Refusal, when, first_number, NoneHolds}
use Rattle.protocol.specs.Replies.{reply_number}
use Rattle.protocol.specs.Slices.{Table, every, in_range, sizes_good}
use Rattle.protocol.proofs.FirstLaws.{Refuse, refuse_of}
use Rattle.protocol.proofs.ReplyLaws.{not_accepted}
use Rattle.sessions.specs.File.{boards_in, cells_in, rule_in, records_at}
use Rattle.sessions.specs.FileRefusals.{head_refusals, body_refusals, records_bad, body_bad, read_refusals, count_in, run_refusals, write_refusals}
use Rattle.sessions.specs.Code.{Judged}
use Rattle.sessions.specs.declared.Head.{Head}
use Rattle.sessions.proofs.BytesLaws.{Says, head_says}
use Rattle.sessions.proofs.AcceptedLaws.{none_refuses, good_sizes, few_records}

-- the first list refuses: the second is not looked at
refused_before : (first second : List Refusal) → first_number first ≢ 0 → first_number (first ++ second) ≡ first_number first
refused_before [] second h = absurd (h refl)
refused_before (r ∷ first) second h = go r.holds (refused_before first second) h
  where
    go : (b : Bool) → (first_number first ≢ 0 → first_number (first ++ second) ≡ first_number first) → cond b r.answer.number (first_number first) ≢ 0
        → cond b r.answer.number (first_number (first ++ second)) ≡ cond b r.answer.number (first_number first)
    go true i h = refl
    go false i h = i h

-- so a refusal by the first list stands
stopped : (first second : List Refusal) (e : Refused) → reply_number e ≡ first_number first → reply_number e ≡ first_number (first ++ second)
stopped first second e p = p ∙ sym (refused_before first second (λ z. not_accepted e (p ∙ z)))

none_before : (first second : List Refusal) → NoneHolds first → first_number (first ++ second) ≡ first_number second
none_before [] second f = refl
none_before (r ∷ first) second f = rw f.0 (none_before first second f.1)

-- the first list refuses nothing: the second answers
passed : (first second : List Refusal) → Refuse first → first_number first ≡ 0 → first_number (first ++ second) ≡ first_number second
passed first second z e = none_before first second ((none_refuses first z).0 e)

bodies : (sizes : Bool) (rule : ℕ) (body : Bool) → Refuse (body_refusals sizes rule body)
unfolding body_refusals every
bodies sizes rule body = refuse_of (body_refusals sizes rule body) refl

module _ (file : List ℕ) where
  heads : Refuse (head_refusals file)
  unfolding head_refusals every
  heads = refuse_of (head_refusals file) refl

  head_long : first_number (head_refusals file) ≡ 0 → 9 ≤ length file
  unfolding head_refusals
  head_long e = ltb-false _ _ ((none_refuses (head_refusals file) heads).0 e).0

  -- a judged head is the file's
  pub judged_says : (head : Head) → Judged file (head_refusals file) (Ok head) → Says file head
  judged_says head j = head_says file head j.head_is (head_long (sym j.number_is))

  -- ---- the reader

  pub read_head : (lent : ℕ) (e : Refused) → reply_number e ≡ first_number (head_refusals file) → reply_number e ≡ first_number (read_refusals file lent)
  unfolding read_refusals
  read_head lent e p = stopped (head_refusals file) (body_refusals (not (in_range (boards_in file) (cells_in file)) || not (eqb lent (cells_in file))) (rule_in file) (body_bad file)) e p

  -- past the first nine bytes the rest of the list answers
  module _ (head : Head) (j : Judged file (head_refusals file) (Ok head)) (body : Bool) (b : body ≡ body_bad file) where
    pub read_body : (lent : ℕ) (sizes : Bool) → sizes ≡ (not (in_range head.boards head.cells) || not (eqb lent head.cells))
        → first_number (body_refusals sizes head.rule body) ≡ first_number (read_refusals file lent)
    unfolding read_refusals
    read_body lent sizes s =
        let says = judged_says head j in
        rw (s, b, says.says_boards, says.says_cells, says.says_rule) (sym (passed (head_refusals file) (body_refusals (not (in_range (boards_in file) (cells_in file)) || not (eqb lent (cells_in file))) (rule_in file) (body_bad file)) heads (sym j.number_is)))

  -- ---- the run

  module _ (t : Table) (numbers values : ℕ) where
    abbrev sized : List Refusal
    sized = body_refusals (not (sizes_good (boards_in file) (cells_in file) t)) (rule_in file) (body_bad file)

    abbrev room : List Refusal
    room = when 20 (ltb numbers (count_in file) || ltb values (count_in file)) ∷ []

    pub run_head : (e : Refused) → reply_number e ≡ first_number (head_refusals file) → reply_number e ≡ first_number (run_refusals file t numbers values)
    unfolding run_refusals
    run_head e p = stopped (head_refusals file) (sized ++ room) e p

    module _ (head : Head) (j : Judged file (head_refusals file) (Ok head)) (fits body : Bool) (f : fits ≡ sizes_good head.boards head.cells t) (b : body ≡ body_bad file) where
      sized_is : first_number (body_refusals (not fits) head.rule body) ≡ first_number sized
      sized_is = let says = judged_says head j in rw (f, b, says.says_boards, says.says_cells, says.says_rule)

      pub run_body : (e : Refused) → reply_number e ≡ first_number (body_refusals (not fits) head.rule body) → reply_number e ≡ first_number (run_refusals file t numbers values)
      unfolding run_refusals
      run_body e p = stopped sized room e (p ∙ sized_is) ∙ sym (passed (head_refusals file) (sized ++ room) heads (sym j.number_is))

      -- past the body the room answers
      module _ (d : 0 ≡ first_number (body_refusals (not fits) head.rule body)) where
        run_room : cond (ltb numbers head.count || ltb values head.count) 20 0 ≡ first_number (run_refusals file t numbers values)
        unfolding run_refusals
        run_room =
            rw (judged_says head j).says_count
            (sym (passed (head_refusals file) (sized ++ room) heads (sym j.number_is) ∙ passed sized room (bodies _ _ _) (sym (d ∙ sized_is))))

        pub run_short : (numbers < head.count) ⊎ ((head.count ≤ numbers) × (values < head.count)) → 20 ≡ first_number (run_refusals file t numbers values)
        run_short (inl n) = rw (lt-ltb numbers head.count n) at run_room
        run_short (inr v) = rw (le-ltb numbers head.count v.0, lt-ltb values head.count v.1) at run_room

        pub run_roomy : head.count ≤ numbers → head.count ≤ values → 0 ≡ first_number (run_refusals file t numbers values)
        run_roomy n v = rw (le-ltb numbers head.count n, le-ltb values head.count v) at run_room

-- ---- the writer

-- the two tests say whether the sizes, and whether the records are bad
module _ (rule boards cells starting records : ℕ) (sizes bad : Bool) (s : sizes ≡ (not (in_range boards cells) || not (eqb starting cells))) (b : bad ≡ records_bad records) where
  abbrev tested : List Refusal
  tested = body_refusals sizes rule bad

  -- no sum of the lengths wraps
  pub write_small : 0 ≡ first_number tested → (cells ≤ 512) × (records / 9 ≤ 4096)
  unfolding body_refusals
  write_small e =
      let f = (none_refuses tested (bodies sizes rule bad)).0 (sym e) in
      (((good_sizes boards cells starting).0 (sym s ∙ f.0)).few_cells, few_records records (sym b ∙ f.1.1.0))

  module _ (room : ℕ) where
    abbrev roomy : List Refusal
    roomy = when 20 (ltb room (records_at cells + records)) ∷ []

    is_tested : first_number (write_refusals rule boards cells starting records room) ≡ first_number (tested ++ roomy)
    unfolding write_refusals
    is_tested = rw (s, b)

    pub write_body : (e : Refused) → reply_number e ≡ first_number tested → reply_number e ≡ first_number (write_refusals rule boards cells starting records room)
    write_body e p = stopped tested roomy e p ∙ sym is_tested

    -- past the body the room answers
    module _ (e : 0 ≡ first_number tested) where
      write_room : cond (ltb room (records_at cells + records)) 20 0 ≡ first_number (write_refusals rule boards cells starting records room)
      write_room = sym (is_tested ∙ passed tested roomy (bodies _ _ _) (sym e))

      pub write_short : room < records_at cells + records → 20 ≡ first_number (write_refusals rule boards cells starting records room)
      write_short h = rw (lt-ltb room (records_at cells + records) h) at write_room

      pub write_roomy : records_at cells + records ≤ room → 0 ≡ first_number (write_refusals rule boards cells starting records room)
      write_roomy h = rw (le-ltb room (records_at cells + records) h) at write_room
