-- What a search that took no reply stands for, and how its reader begins.
use Rattle.std.proofs.Common.{◌≡◌, ℕ, zero, suc, ◌<◌, List, [], Bool, true, false, ◌&&◌, ◌||◌, map, ap, sym, ◌∙◌, refl, subst, arith}
use Rattle.std.specs.Prelude.{nat_lt}
use Rattle.std.specs.List.{list_all}
use Rattle.std.proofs.lemmas.Bool.{both_ways}
use Rattle.stamps.specs.Limits.{max_found}
use Rattle.stamps.specs.WriteSet.{IsWriteSet}
use Rattle.stamps.proofs.KeyLemmas.{IsAscending-distinct}
use Rattle.plain_store.proofs.BadKeys.{good_keys}
use Rattle.plain_store.specs.declared.message.Message.{Message}
use Rattle.plain_store.specs.Words.{Key, Tag, Setup}
use Rattle.plain_store.specs.Finding.{below, all_found, total_found, all_keys_found}
use Rattle.plain_store.specs.Run.{are_bad}
use Rattle.plain_store.proofs.ListTests.{all_push}
use Rattle.get_all.specs.AskedPartition.{asked_at}
use Rattle.get_all.specs.Reading.{has_ended as has_read}
use Rattle.get_all.specs.Reader.{is_no_read, StandsFor as StandsForRead}
use Rattle.get_all.specs.Finding.{has_ended}
use Rattle.get_all.specs.TagSearch.{has_told, StandsFor}
use Rattle.get_all.specs.declared.reader.Reader.{Reader}
use Rattle.get_all.specs.declared.tag_search.TagSearch.{TagSearch}

-- ---- a new search

pub new_search : (setup : Setup) (tag : Tag) (f : TagSearch) (reader : Reader) → 0 < setup.partitions → f.tag ≡ tag → f.parts ≡ setup.partitions → f.asked ≡ map asked_at (below setup.partitions) → f.total ≡ 0
    → f.keys ≡ [] → f.reads ≡ false → f.has_ended ≡ false → StandsFor setup tag f reader []
new_search setup tag f reader some tagged parts asked total keys unread going =
    let not_all : all_found setup [] ≡ false = untold setup.partitions some in
    let open_now : has_ended setup [] ≡ false = ap (λ b. b && (nat_lt max_found (total_found []) || has_read (all_keys_found []) [])) not_all in
    record {
      tagged = tagged;
      parts = parts;
      ended = going ∙ sym open_now;
      holds = λ o. record {
        asked = asked;
        at_home = refl;
        asking = λ a. record {
          unread = unread;
          no_reads = refl;
          total = total;
          keys = λ few. keys;
          counted = λ few. refl;
          distinct = refl;
          homes = λ key member. cc;
          answered = λ p t. refl;
        };
        reading = λ all. absurd (both_ways (all_found setup []) not_all all);
      };
    }
  where
    untold : (n : ℕ) → 0 < n → list_all (has_told []) (below n) ≡ false
    untold zero positive = absurd (omega (arith, positive))
    untold (suc n) positive = all_push (has_told []) (below n) n ∙ and_no (list_all (has_told []) (below n))
      where
        and_no : (b : Bool) → (b && false) ≡ false
        and_no true = refl
        and_no false = refl

-- a reader of keys in byte order
pub opened : (keys sorted : List Key) → keys ≡ sorted → IsWriteSet keys → (may : Bool) → (may ≡ false → are_bad keys ≡ true) × (are_bad keys ≡ true → may ≡ false)
    → (r : Reader) → (may ≡ true → (replies : List Message) → list_all is_no_read replies ≡ true → StandsForRead keys r replies)
    → (may ≡ true) × ((replies : List Message) → list_all is_no_read replies ≡ true → StandsForRead sorted r replies)
opened keys sorted same writes false refused r stands =
    let good : are_bad keys ≡ false = good_keys keys (record { not_empty = writes.not_empty; at_most = writes.at_most; distinct = IsAscending-distinct keys writes.ascending }) in
    let bad : are_bad keys ≡ true = refused.0 refl in
    absurd (both_ways (are_bad keys) good bad)
opened keys sorted same writes true refused r stands =
    let P : List Key → Type 0 = λ ks. (replies : List Message) → list_all is_no_read replies ≡ true → StandsForRead ks r replies in
    (refl, subst P same (stands refl))
