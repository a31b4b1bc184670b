-- Replies that show the same of round one need the same of round two: for `ReadTurns` and `CallsSoFar`.
use Rattle.std.proofs.Common.{◌≡◌, List, [], ◌∷◌, Bool, map, filter, ap, ◌∙◌, refl, cond, Some, inl, inr}
use Rattle.std.specs.Prelude.{nat_lt}
use Rattle.stamps.specs.Stamp.{greatest}
use Rattle.plain_store.specs.declared.calls.Call.TheVariants.{Get}
use Rattle.plain_store.specs.declared.message.Message.{Message}
use Rattle.plain_store.specs.Words.{◌∈◌, Key, Setup, home}
use Rattle.plain_store.specs.Rounds.{seen_first, stamp_for, stamp_seen, first_stamp, needed, is_late, second_calls}
use Rattle.plain_store.specs.Writing.{Outgoing}

map_same : {X Y : Type 0} (f g : X → Y) (xs : List X) → ((x : X) → x ∈ xs → f x ≡ g x) → map f xs ≡ map g xs
map_same f g [] same = refl
map_same f g (x ∷ xs) same = (λ i. same x (inl refl) i ∷ map_same f g xs (λ y h. same y (inr h)) i)

filter_same : {X : Type 0} (p q : X → Bool) (xs : List X) → ((x : X) → x ∈ xs → p x ≡ q x) → filter p xs ≡ filter q xs
filter_same p q [] same = refl
filter_same p q (x ∷ xs) same = (λ i. cond (same x (inl refl) i) (x ∷ filter_same p q xs (λ y h. same y (inr h)) i) (filter_same p q xs (λ y h. same y (inr h)) i))

module _ (keys : List Key) (replies others : List Message) (same : (key : Key) → key ∈ keys → seen_first replies key ≡ seen_first others key) where
  needed_same : (key : Key) → needed keys replies key ≡ needed keys others key
  unfolding needed
  needed_same key = ap greatest (map_same (λ other. stamp_for key (seen_first replies other)) (λ other. stamp_for key (seen_first others other)) keys (λ other k. ap (stamp_for key) (same other k)))

  late_same : (key : Key) → key ∈ keys → is_late keys replies key ≡ is_late keys others key
  unfolding first_stamp
  late_same key k = (λ i. nat_lt (stamp_seen (same key k i)) (needed_same key i))

  pub second_same : (setup : Setup) → second_calls setup keys replies ≡ second_calls setup keys others
  second_same setup =
      let second : Key → Outgoing = λ key. record { partition = home setup key; call = Get key (Some (needed keys replies key)) } in
      let other : Key → Outgoing = λ key. record { partition = home setup key; call = Get key (Some (needed keys others key)) } in
      ap (map second) (filter_same (is_late keys replies) (is_late keys others) keys late_same)
      ∙ map_same second other _ (λ key k. ap (λ s. let out : Outgoing = record { partition = home setup key; call = Get key (Some s) } in out) (needed_same key))
