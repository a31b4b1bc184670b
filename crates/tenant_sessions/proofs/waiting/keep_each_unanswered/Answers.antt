use Rattle.std.proofs.Common.{◌≡◌, ℕ, ◌+◌, ◌<◌, ◌≤◌, Bool, true, false, not, List, [], ◌∷◌, ◌++◌, length, get_or, set, take, drop, filter, cond, refl, ap, sym, ◌∙◌, arith}
use Rattle.std.proofs.lemmas.List.{take_all, take_more, take_more_set, drop-set-lt, drop-drop, get_or-drop, length-set, append-nil}
use Rattle.std.proofs.lemmas.Grind.{get_or_default_zero}
use Rattle.std.proofs.lemmas.List.Elements.{filter-append}
use Rattle.tenant_sessions.specs.Parts.{batch_calls, is_answered_at}
use Rattle.tenant_sessions.proofs.waiting.keep_each_unanswered.Goals as goal
use Rattle.tenant_sessions.proofs.waiting.keep_each_unanswered.Goals.{then-not-is_answered_at, else-not-is_answered_at, then-is_found, else-is_found}

-- one more place of xs is kept in ys, or left out
module _ (p : ℕ → Bool) (xs ys : List ℕ) (kept i x : ℕ) (within : i < length xs) (few : kept ≤ i) (long : length ys ≡ length xs)
    (so_far : take kept ys ≡ filter p (take i xs)) (rest : drop i ys ≡ drop i xs) (is : x ≡ get_or ys i x) where
  there : get_or xs i x ≡ x
  there =
      ap (λ n. get_or xs n x) (omega arith) ∙ sym (get_or-drop i xs 0 x) ∙ ap (λ zs. get_or zs 0 x) (sym rest) ∙ get_or-drop i ys 0 x
      ∙ ap (λ n. get_or ys n x) (omega arith) ∙ sym is

  filtered : (b : Bool) → p x ≡ b → filter p (take (i + 1) xs) ≡ filter p (take i xs) ++ cond b (x ∷ []) []
  filtered b says =
      ap (filter p) (take_more xs i x within ∙ ap (λ y. take i xs ++ y ∷ []) there) ∙ filter-append p (take i xs) (x ∷ []) ∙ ap (λ c. filter p (take i xs) ++ cond c (x ∷ []) []) says

  past : drop (i + 1) ys ≡ drop (i + 1) xs
  past = sym (drop-drop 1 i ys) ∙ ap (drop 1) rest ∙ drop-drop 1 i xs

  keeps : p x ≡ true → take (kept + 1) (set ys kept x) ≡ filter p (take (i + 1) xs)
  keeps says = take_more_set ys kept x (omega (arith, long)) ∙ ap (λ zs. zs ++ x ∷ []) so_far ∙ sym (filtered true says)

  stays : drop (i + 1) (set ys kept x) ≡ drop (i + 1) xs
  stays = drop-set-lt (i + 1) ys kept x (omega arith) ∙ past

  leaves : p x ≡ false → take kept ys ≡ filter p (take (i + 1) xs)
  leaves says = so_far ∙ sym (append-nil (filter p (take i xs))) ∙ sym (filtered false says)

no_more : (b : Bool) → not b ≡ false → b ≡ true
no_more true is = refl
no_more false is = cc

pub loop-at-preserved : goal.loop-at-preserved
loop-at-preserved c =
    let answers = is_answered_at (batch_calls c.args.parts c.args.part.now) c.args.message.now in
    let p = λ (i : ℕ). not (answers i) in
    let xs = c.args.places.now in
    let ys = c.loop-at.places in
    let i = c.loop-at.at in
    let inv = c.loop-at.invariant in
    let x = get_or c.as_slice.result.now i 0 in
    let within : i < length xs = omega (arith, inv.long, ap length c.as_slice-at-end.ensures.value) in
    let is : x ≡ get_or ys i x = ap (λ l. get_or l i 0) c.as_slice.ensures.value ∙ sym (get_or_default_zero ys i x (omega (arith, within, inv.long))) in
    let at : get_or xs i x ≡ x = there p xs ys c.loop-at.kept i x within inv.few inv.long inv.kept inv.rest is in
    let value : c.if-is_found.value ≡ p x =
    elim c.if-is_found.branch [
      | then-is_found w ↦
          let f = inv.found w.if-is_found.true in
          let once = c.requires.apart f.3 f.0 i x f.1 within (ap answers (get_or_default_zero xs f.0 x (omega (arith, f.1, within))) ∙ f.2) in
          w.value-is ∙ w.if-is_found.true ∙ sym (ap p (sym at) ∙ ap not once)
      | else-is_found w ↦ w.value-is ∙ ap not w.is_answered_at.ensures ∙ ap p w.from.ensures
    ] in
    elim c.if-not-is_answered_at.branch [
      | then-not-is_answered_at w ↦
          let says : p x ≡ true = sym value ∙ w.if-not-is_answered_at.true in
          let after = w.places-is ∙ w.set.ensures in record {
            kept = ap (λ k. take k c.if-not-is_answered_at.places) w.kept-is ∙ ap (take (c.loop-at.kept + 1)) after ∙ keeps p xs ys c.loop-at.kept i x within inv.few inv.long inv.kept inv.rest is says;
            rest = ap (drop (i + 1)) after ∙ stays p xs ys c.loop-at.kept i x within inv.few inv.long inv.kept inv.rest is;
            few = omega (arith, inv.few, w.kept-is);
            long = ap length after ∙ length-set ys c.loop-at.kept x ∙ inv.long;
            found = λ h. let f = inv.found (sym w.is_found-is ∙ h) in (f.0, omega (arith, f.1), f.2, f.3);
          }
      | else-not-is_answered_at w ↦
          let says : p x ≡ false = sym value ∙ w.if-not-is_answered_at.false in record {
            kept = ap (λ k. take k c.if-not-is_answered_at.places) w.kept-is ∙ ap (take c.loop-at.kept) w.places-is ∙ leaves p xs ys c.loop-at.kept i x within inv.few inv.long inv.kept inv.rest is says;
            rest = ap (drop (i + 1)) w.places-is ∙ past p xs ys c.loop-at.kept i x within inv.few inv.long inv.kept inv.rest is;
            few = omega (arith, inv.few, w.kept-is);
            long = ap length w.places-is ∙ inv.long;
            found = λ h. (i, omega arith, ap answers (sym (get_or_default_zero xs i x within) ∙ at) ∙ no_more (answers x) says, sym w.is_found-is ∙ h);
          }
    ]

pub returns : goal.returns
returns c =
    let xs = c.args.places.now in
    let p = λ (i : ℕ). not (is_answered_at (batch_calls c.args.parts c.args.part.now) c.args.message.now i) in
    c.truncate.ensures ∙ c.loop-at.invariant.kept ∙ ap (filter p) (take_all c.loop-at.at xs (omega (arith, ap length c.as_slice-at-end.ensures.value)))

pub truncate-requires : goal.truncate-requires
truncate-requires c = omega (arith, c.loop-at.invariant.few, c.loop-at.invariant.long, ap length c.as_slice-at-end.ensures.value)
