-- The numbers between two pictures of a sender that sends in order carry no media.
use Rattle.std.proofs.Common.{inl, inr, ◌≡◌, ◌∙◌, sym, refl, ap, subst, zero, suc, ℕ, ◌+◌, ◌-◌, ◌*◌, ◌%◌, ◌<◌, ◌≤◌, Bool, true, false, List, [], ◌∷◌, Option, Some, None, arith}
use Rattle.std.specs.Prelude.{IfSome, ◌⊎◌}
use Rattle.std.proofs.Math.Nat.{mul_comm, mul-le-mul_right}
use Rattle.std.proofs.lemmas.Bool.{cases_order}
use Rattle.std.proofs.lemmas.Option.{same_Some}
use Rattle.codec_payload_edges.specs.Edges.{ids_of}
use Rattle.codec_payload_edges.specs.Pictures.{heard}
use Rattle.codec_payload_edges.specs.Senders.{AreOf, CarriesNone, CarryNoMedia, FindsNothing, HasMediaAlone, IsAmong, IsBetween, IsOf, Sender, SendsInOrder, Stored, after_calls, stored_in}
use Rattle.codec_payload_edges.specs.declared.edge.IdWidth.{IdWidth}
use Rattle.codec_payload_edges.specs.declared.edge.IdWidth.TheVariants as widths
use Rattle.codec_payload_edges.specs.declared.pictures.Between.{Between}
use Rattle.codec_payload_edges.proofs.BetweenLemmas.{are_between_pictures}

is_of : (s : Sender) (x : Stored) (xs : List Stored) → IsAmong x xs → AreOf s xs → IsOf s x
is_of s x [] among all = absurd among
is_of s x (y ∷ ys) (inl same) all = subst (IsOf s) (sym same) all.0
is_of s x (y ∷ ys) (inr among) all = is_of s x ys among all.1

-- the id after one is not that of a picture which is at least 2 and at most a wrap of ids later
never_round : (width : IdWidth) (l f low high : ℕ) → low + 2 ≤ high → high ≤ low + ids_of width → l % ids_of width ≡ low % ids_of width → (l + 1) % ids_of width ≡ f % ids_of width → f % ids_of width ≡ high % ids_of width → ⊥
never_round widths.Bits7 l f low high above near last follows first = omega (arith, above, near, last, follows, first)
never_round widths.Bits15 l f low high above near last follows first = omega (arith, above, near, last, follows, first)
never_round widths.Bits16 l f low high above near last follows first = omega (arith, above, near, last, follows, first)

at_most_wrap : (width : IdWidth) (low high step d : ℕ) → high ≤ low + d * step → step * 128 ≤ ids_of width → d ≤ 128 → high ≤ low + ids_of width
at_most_wrap width low high step d near small few = at_most low high (d * step) (ids_of width) near (subst (λ (n : ℕ). d * step ≤ n) (mul_comm 128 step) (mul-le-mul_right step few)) small
  where
    at_most : (low high rise wrap : ℕ) → high ≤ low + rise → rise ≤ step * 128 → step * 128 ≤ wrap → high ≤ low + wrap
    at_most low high rise wrap near few small = omega (arith, near, few, small)

module _ (s : Sender) (order : SendsInOrder s) where
  -- the ids of two pictures
  ids_above : (i d : ℕ) → s.id_of i + d ≤ s.id_of (i + d)
  ids_above i zero = omega (arith, ap s.id_of (plus_zero i))
    where
      plus_zero : (n : ℕ) → n + 0 ≡ n
      plus_zero n = omega arith
  ids_above i (suc d) = omega (arith, ids_above i d, order.ids_rise (i + d), ap s.id_of (plus_suc i d))
    where
      plus_suc : (n m : ℕ) → n + suc m ≡ suc (n + m)
      plus_suc n m = omega arith

  ids_below : (i d : ℕ) → s.id_of (i + d) ≤ s.id_of i + d * s.step
  ids_below i zero = omega (arith, ap s.id_of (plus_zero i))
    where
      plus_zero : (n : ℕ) → n + 0 ≡ n
      plus_zero n = omega arith
  ids_below i (suc d) = omega (arith, ids_below i d, order.ids_near (i + d), ap s.id_of (plus_suc i d), suc_times d s.step)
    where
      plus_suc : (n m : ℕ) → n + suc m ≡ suc (n + m)
      plus_suc n m = omega arith

      suc_times : (n m : ℕ) → suc n * m ≡ n * m + m
      suc_times n m = grind arith

  -- each picture takes a number
  numbers_apart : (a i : ℕ) → s.picture_of a ≡ Some i → (d n : ℕ) → a < n → s.picture_of n ≡ Some (i + suc d) → a + suc d ≤ n
  numbers_apart a i at zero n up is = omega (arith, up)
  numbers_apart a i at (suc d) n up is =
      let sent = order.each_sent a n i (i + suc d) (i + suc (suc d)) at is (omega arith) (omega arith) in
      let above : a < sent.0 = above_by sent.0 (i + suc d) sent.1 (omega arith) in
      let below : sent.0 < n = below_by sent.0 n (i + suc d) (i + suc (suc d)) sent.1 is (omega arith) in
      omega (arith, below, numbers_apart a i at d sent.0 above sent.1)
    where
      above_by : (q k : ℕ) → s.picture_of q ≡ Some k → i < k → a < q
      above_by q k is later = at_order (cases_order a q)
        where
          at_order : (a ≡ q) ⊎ ((a < q) ⊎ (q < a)) → a < q
          at_order (inl same) = absurd (let one : i ≡ k = same_Some i k (sym at ∙ ap s.picture_of same ∙ is) in omega (arith, one, later))
          at_order (inr (inl less)) = less
          at_order (inr (inr more)) = absurd (omega (arith, order.in_order q a k i more is at, later))

      below_by : (q n k l : ℕ) → s.picture_of q ≡ Some k → s.picture_of n ≡ Some l → k < l → q < n
      below_by q n k l is_q is_n later = at_order (cases_order q n)
        where
          at_order : (q ≡ n) ⊎ ((q < n) ⊎ (n < q)) → q < n
          at_order (inl same) = absurd (let one : k ≡ l = same_Some k l (sym is_q ∙ ap s.picture_of same ∙ is_n) in omega (arith, one, later))
          at_order (inr (inl less)) = less
          at_order (inr (inr more)) = absurd (omega (arith, order.in_order n q l k more is_n is_q, later))

  -- no picture is between two that follow each other
  carries_none : (xs : List Stored) (range : Between) → AreOf s xs → IsBetween xs range → CarriesNone s range
  carries_none xs range all is n above below = by (s.picture_of n) refl
    where
      last : IsOf s (record { number = range.after; edge = is.last })
      last = is_of s (record { number = range.after; edge = is.last }) xs is.last_came all

      first : IsOf s (record { number = range.before; edge = is.first })
      first = is_of s (record { number = range.before; edge = is.first }) xs is.first_came all

      first_id : is.first.id % ids_of is.last.width ≡ s.id_of first.picture % ids_of is.last.width
      first_id = subst (λ (w : ℕ). is.first.id % w ≡ s.id_of first.picture % w) (sym is.same_width) first.id

      -- a picture between them
      between : (d : ℕ) → last.picture + suc (suc d) ≡ first.picture → ⊥
      between d apart =
          let at : s.picture_of range.before ≡ Some (last.picture + suc (suc d)) = first.is_media ∙ ap (λ (k : ℕ). Some k) (sym apart) in
          let numbers : range.after + suc (suc d) ≤ range.before = numbers_apart range.after last.picture last.is_media (suc d) range.before (omega (arith, is.some)) at in
          let same = ap s.id_of apart in
          let above_last : s.id_of last.picture + 2 ≤ s.id_of first.picture = omega (arith, ids_above last.picture (suc (suc d)), same) in
          let near = at_most_wrap is.last.width (s.id_of last.picture) (s.id_of (last.picture + suc (suc d))) s.step (suc (suc d)) (ids_below last.picture (suc (suc d))) last.near (omega (arith, numbers, is.few)) in
          never_round is.last.width is.last.id is.first.id (s.id_of last.picture) (s.id_of first.picture) above_last (omega (arith, near, same)) last.id is.follows first_id

      late : (k : ℕ) → s.picture_of n ≡ Some k → last.picture < k
      late k e = at_order (cases_order last.picture k)
        where
          at_order : (last.picture ≡ k) ⊎ ((last.picture < k) ⊎ (k < last.picture)) → last.picture < k
          at_order (inl same) = absurd (last.is_last is.ends n above (e ∙ ap (λ (i : ℕ). Some i) (sym same)))
          at_order (inr (inl less)) = less
          at_order (inr (inr more)) = absurd (omega (arith, order.in_order range.after n last.picture k above last.is_media e, more))

      early : (k : ℕ) → s.picture_of n ≡ Some k → k < first.picture
      early k e = at_order (cases_order k first.picture)
        where
          at_order : (k ≡ first.picture) ⊎ ((k < first.picture) ⊎ (first.picture < k)) → k < first.picture
          at_order (inl same) = absurd (first.is_first is.begins n below (e ∙ ap (λ (i : ℕ). Some i) same))
          at_order (inr (inl less)) = less
          at_order (inr (inr more)) = absurd (omega (arith, order.in_order n range.before k first.picture below e first.is_media, more))

      by : (picture : Option ℕ) → s.picture_of n ≡ picture → s.picture_of n ≡ None
      by None e = e
      by (Some k) e = absurd (between (first.picture - suc (suc last.picture)) (omega (arith, late k e, early k e)))

  pub found_carry_none : (xs : List Stored) (range : Option Between) → AreOf s xs → IfSome range (IsBetween xs) → IfSome range (CarriesNone s)
  found_carry_none xs None all is = tt
  found_carry_none xs (Some range) all is = carries_none xs range all is

  -- a sender that sends media alone has nothing between
  found_nothing : HasMediaAlone s → (xs : List Stored) (range : Option Between) → AreOf s xs → IfSome range (IsBetween xs) → range ≡ None
  found_nothing alone xs None all is = refl
  found_nothing alone xs (Some range) all is =
      let last = is_of s (record { number = range.after; edge = is.last }) xs is.last_came all in
      let first = is_of s (record { number = range.before; edge = is.first }) xs is.first_came all in
      let up : range.after < range.after + 1 = omega arith in
      let below : range.after + 1 < range.before = omega (arith, is.some) in
      let media = alone range.after (range.after + 1) range.before last.picture first.picture up below last.is_media first.is_media in
      let none = carries_none xs range all is (range.after + 1) up below in
      absurd (let wrong : ◌≡◌ {A = Option ℕ} None (Some media.0) = sym none ∙ media.1 in cc)

  pub found_none : HasMediaAlone s → (xs : List Stored) (before after : Option Between) → AreOf s xs → IfSome before (IsBetween xs) × IfSome after (IsBetween xs) → (before ≡ None) × (after ≡ None)
  found_none alone xs before after all found = (found_nothing alone xs before all found.0, found_nothing alone xs after all found.1)

pub carry_no_media : CarryNoMedia
carry_no_media s calls x order all =
    let found = are_between_pictures calls x in (
      found_carry_none s order (x ∷ stored_in calls) ((heard x.number x.edge (after_calls calls)).1).before all found.0,
      found_carry_none s order (x ∷ stored_in calls) ((heard x.number x.edge (after_calls calls)).1).after all found.1,
    )

pub finds_nothing : FindsNothing
finds_nothing s calls x order alone all =
    found_none s order alone (x ∷ stored_in calls) ((heard x.number x.edge (after_calls calls)).1).before ((heard x.number x.edge (after_calls calls)).1).after all (are_between_pictures calls x)
