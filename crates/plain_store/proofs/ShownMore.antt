-- More replies show no less.
use Rattle.std.proofs.Common.{◌≡◌, List, [], ◌∷◌, ◌++◌, true, refl, Option, Some, None, is_some}
use Rattle.plain_store.specs.Words.{Key, Message}
use Rattle.plain_store.specs.Rounds.{some_or, first_some, shown_first, seen_first, is_shown, round_one_complete}
use Rattle.plain_store.proofs.Members.{all_more}

some_more : {X Y : Type 0} (f : X → Option Y) (xs ys : List X) → is_some (first_some f xs) ≡ true → is_some (first_some f (xs ++ ys)) ≡ true
some_more f [] ys h = cc
some_more {X} {Y} f (x ∷ xs) ys h = go (f x) h (some_more f xs ys)
  where
    go : (o : Option Y) → is_some (some_or o (first_some f xs)) ≡ true → (is_some (first_some f xs) ≡ true → is_some (first_some f (xs ++ ys)) ≡ true) → is_some (some_or o (first_some f (xs ++ ys))) ≡ true
    go None k rest = rest k
    go (Some y) k rest = refl

pub shown_more : (xs ys : List Message) (key : Key) → is_shown xs key ≡ true → is_shown (xs ++ ys) key ≡ true
unfolding seen_first
shown_more xs ys key h = some_more (λ (q : Message). shown_first key q.call q.reply) xs ys h

pub complete_more : (keys : List Key) (xs ys : List Message) → round_one_complete keys xs ≡ true → round_one_complete keys (xs ++ ys) ≡ true
complete_more keys xs ys h = all_more (is_shown xs) (is_shown (xs ++ ys)) keys (λ key t. shown_more xs ys key t) h
