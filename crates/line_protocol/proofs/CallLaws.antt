-- What is read is spelled so, and what is spelled so is read: for a cell's lines.
use Rattle.std.proofs.Common.{◌≡◌, ℕ, ◌<◌, true, false, cond, eqb, List, ◌∷◌, ◌++◌, Option, Some, None, refl, sym, ap, subst, ◌∙◌, arith}
use Rattle.std.specs.Prelude.{decimal, codes}
use Rattle.std.proofs.lemmas.Bool.{eqb-false, ne_eqb}
use Rattle.std.specs.List.{list_all}
use Rattle.std.proofs.lemmas.Option.{same_Some}
use Rattle.stamps.specs.Limits.{max_key_len, max_tag_len}
use Rattle.stamps.specs.Text.{is_name_byte}
use Rattle.plain_store.specs.declared.calls.Call.{Call}
use Rattle.plain_store.specs.declared.calls.Call.TheVariants.{Prepare, Commit, Get, Found, Collect, Discard}
use Rattle.line_protocol.specs.Spelling.{stamp_text, record_text, keys_text, line_of, HasLine}
use Rattle.line_protocol.specs.Reading.{◌>>=◌, split_first, number_at, stamp_at, key_at, tag_at, get_by, writes_at, record_at, prepare_at, get_at, commit_at, found_at, collect_at, discard_at, call_by, call_at}
use Rattle.line_protocol.proofs.Splits.{Lacks, bind_some, split_first-joined, split_first-parts, split_first-lacks}
use Rattle.line_protocol.proofs.Numbers.{number_found, number_again}
use Rattle.line_protocol.proofs.RecordLaws.{writes_found, writes_again, record_found, record_again, record_lacks_space}
use Rattle.line_protocol.proofs.Laws.{IsReader, Lacks-allowed, text_reader, written_tag, tag_again, stamp_reader, not_chosen, either_command}

-- the words of a line that asks for this call
abbrev IsAsked : List ℕ → List ℕ → Call → Type 0
IsAsked command words call = HasLine call × (command ++ 32 ∷ words ≡ line_of call)

get_by-found : (words : List ℕ) (o : Option (List ℕ × List ℕ)) (call : Call) → split_first 32 words ≡ o → get_by words o ≡ Some call → IsAsked (codes "get") words call
get_by-found words None call parts e =
    let k = bind_some (key_at words) (λ key. Some (Get key None)) call e in
    let key = (text_reader is_name_byte 1 max_key_len).found words k.0 k.1 in
    subst (λ (c : Call). IsAsked (codes "get") words c) (same_Some (Get k.0 None) call k.2) (key.0, ap (λ (t : List ℕ). codes "get" ++ 32 ∷ t) key.1)
get_by-found words (Some p) call parts e =
    let k = bind_some (key_at p.0) (λ key. stamp_at p.1 >>= λ stamp. Some (Get key (Some stamp))) call e in
    let s = bind_some (stamp_at p.1) (λ stamp. Some (Get k.0 (Some stamp))) call k.2 in
    let key = (text_reader is_name_byte 1 max_key_len).found p.0 k.0 k.1 in
    let stamp = stamp_reader.found p.1 s.0 s.1 in
    let parted = split_first-parts 32 words p.0 p.1 parts in
    subst (λ (c : Call). IsAsked (codes "get") words c) (same_Some (Get k.0 (Some s.0)) call s.2)
    ((key.0, stamp.0), ap (λ (t : List ℕ). codes "get" ++ 32 ∷ t) (parted.parts ∙ ap (λ (t : List ℕ). t ++ 32 ∷ p.1) key.1 ∙ ap (λ (t : List ℕ). k.0 ++ 32 ∷ t) stamp.1))

get-found : (words : List ℕ) (call : Call) → get_at words ≡ Some call → IsAsked (codes "get") words call
unfolding get_at
get-found words call e = get_by-found words (split_first 32 words) call refl e

commit-found : (words : List ℕ) (call : Call) → commit_at words ≡ Some call → IsAsked (codes "commit") words call
unfolding commit_at
commit-found words call e =
    let s = bind_some (stamp_at words) (λ stamp. cond (eqb stamp 0) None (Some (Commit stamp))) call e in
    let n = not_chosen (eqb s.0 0) (Some (Commit s.0)) call s.2 in
    let stamp = stamp_reader.found words s.0 s.1 in
    let above : 0 < s.0 = let ne = eqb-false s.0 0 n.0 in omega arith in
    subst (λ (c : Call). IsAsked (codes "commit") words c) (same_Some (Commit s.0) call n.1) ((stamp.0, above), ap (λ (t : List ℕ). codes "commit" ++ 32 ∷ t) stamp.1)

found-found : (words : List ℕ) (call : Call) → found_at words ≡ Some call → IsAsked (codes "found") words call
unfolding found_at
found-found words call e =
    let t = bind_some (tag_at words) (λ tag. Some (Found tag)) call e in
    let tag = (text_reader is_name_byte 1 max_tag_len).found words t.0 t.1 in
    subst (λ (c : Call). IsAsked (codes "found") words c) (same_Some (Found t.0) call t.2) (written_tag t.0 tag.0, ap (λ (t : List ℕ). codes "found" ++ 32 ∷ t) tag.1)

collect-found : (words : List ℕ) (call : Call) → collect_at words ≡ Some call → IsAsked (codes "collect") words call
unfolding collect_at
collect-found words call e =
    let k = bind_some (number_at 255 words) (λ keep. cond (eqb keep 0) None (Some (Collect keep))) call e in
    let n = not_chosen (eqb k.0 0) (Some (Collect k.0)) call k.2 in
    let keep = number_found 255 words k.0 (omega arith) k.1 in
    let ne = eqb-false k.0 0 n.0 in
    subst (λ (c : Call). IsAsked (codes "collect") words c) (same_Some (Collect k.0) call n.1)
    (record { positive = omega arith; small = omega (arith, keep.0) }, ap (λ (t : List ℕ). codes "collect" ++ 32 ∷ t) keep.1)

discard-found : (words : List ℕ) (call : Call) → discard_at words ≡ Some call → IsAsked (codes "discard") words call
unfolding discard_at
discard-found words call e =
    let s = bind_some (stamp_at words) (λ stamp. Some (Discard stamp)) call e in
    let stamp = stamp_reader.found words s.0 s.1 in
    subst (λ (c : Call). IsAsked (codes "discard") words c) (same_Some (Discard s.0) call s.2) (stamp.0, ap (λ (t : List ℕ). codes "discard" ++ 32 ∷ t) stamp.1)

prepare-found : (words : List ℕ) (call : Call) → prepare_at words ≡ Some call → IsAsked (codes "prepare") words call
unfolding prepare_at
prepare-found words call e =
    let p = bind_some (split_first 32 words) (λ p. writes_at p.1 >>= λ writes. record_at p.0 writes >>= λ r. Some (Prepare r)) call e in
    let w = bind_some (writes_at p.0.1) (λ writes. record_at p.0.0 writes >>= λ r. Some (Prepare r)) call p.2 in
    let r = bind_some (record_at p.0.0 w.0) (λ r. Some (Prepare r)) call w.2 in
    let parted = split_first-parts 32 words p.0.0 p.0.1 p.1 in
    let writes = writes_found p.0.1 w.0 w.1 in
    let found = record_found p.0.0 w.0 r.0 writes.0 r.1 in
    subst (λ (c : Call). IsAsked (codes "prepare") words c) (same_Some (Prepare r.0) call r.2)
    (found.0, ap (λ (t : List ℕ). codes "prepare" ++ 32 ∷ t) (parted.parts ∙ ap (λ (t : List ℕ). t ++ 32 ∷ p.0.1) found.1.0 ∙ ap (λ (t : List ℕ). record_text r.0 ++ 32 ∷ t) (writes.1 ∙ ap keys_text (sym found.1.1))))

call_by-found : (command words : List ℕ) (call : Call) → call_by command words ≡ Some call → IsAsked command words call
call_by-found command words call =
    either_command asked command (codes "prepare") (prepare_at words) _ call (prepare-found words call)
    (either_command asked command (codes "commit") (commit_at words) _ call (commit-found words call)
    (either_command asked command (codes "get") (get_at words) _ call (get-found words call)
    (either_command asked command (codes "found") (found_at words) _ call (found-found words call)
    (either_command asked command (codes "collect") (collect_at words) _ call (collect-found words call)
    (either_command asked command (codes "discard") (discard_at words) None call (discard-found words call) (λ e. absurd cc))))))
  where
    asked : List ℕ → Type 0
    asked c = IsAsked c words call

call_found : (line : List ℕ) (call : Call) → call_at line ≡ Some call → HasLine call × (line ≡ line_of call)
unfolding call_at
call_found line call e =
    let p = bind_some (split_first 32 line) (λ p. call_by p.0 p.1) call e in
    let asked = call_by-found p.0.0 p.0.1 call p.2 in
    (asked.0, (split_first-parts 32 line p.0.0 p.0.1 p.1).parts ∙ asked.1)

-- ---- what is spelled is read

key_lacks_space : (key : List ℕ) → list_all is_name_byte key ≡ true → Lacks 32 key
key_lacks_space = Lacks-allowed is_name_byte 32 refl

call_again : (call : Call) → HasLine call → call_at (line_of call) ≡ Some call
unfolding call_at prepare_at get_at commit_at found_at collect_at discard_at
call_again (Prepare r) h =
    rw (
      split_first-joined 32 (codes "prepare") (record_text r ++ 32 ∷ keys_text r.writes) (refl, (refl, (refl, (refl, (refl, (refl, (refl, tt))))))),
      split_first-joined 32 (record_text r) (keys_text r.writes) (record_lacks_space r h),
      writes_again r.writes h.keys h.writes,
      record_again r h,
    ) refl
call_again (Commit stamp) h =
    let above : eqb stamp 0 ≡ false = ne_eqb stamp 0 (λ e. omega (arith, e, h.1)) in
    rw (split_first-joined 32 (codes "commit") (stamp_text stamp) (refl, (refl, (refl, (refl, (refl, (refl, tt)))))), stamp_reader.again stamp h.0, above) refl
call_again (Get key None) h =
    rw (split_first-joined 32 (codes "get") key (refl, (refl, (refl, tt))), split_first-lacks 32 key (key_lacks_space key h.all_allowed), (text_reader is_name_byte 1 max_key_len).again key h) refl
call_again (Get key (Some stamp)) h =
    rw (
      split_first-joined 32 (codes "get") (key ++ 32 ∷ stamp_text stamp) (refl, (refl, (refl, tt))),
      split_first-joined 32 key (stamp_text stamp) (key_lacks_space key h.0.all_allowed),
      (text_reader is_name_byte 1 max_key_len).again key h.0,
      stamp_reader.again stamp h.1,
    ) refl
call_again (Found tag) h = rw (split_first-joined 32 (codes "found") tag (refl, (refl, (refl, (refl, (refl, tt))))), tag_again tag h) refl
call_again (Collect keep) h =
    let positive = h.positive in
    let small = h.small in
    let above : eqb keep 0 ≡ false = ne_eqb keep 0 (λ e. omega (arith, e)) in
    rw (
      split_first-joined 32 (codes "collect") (decimal keep) (refl, (refl, (refl, (refl, (refl, (refl, (refl, tt))))))),
      number_again 255 keep (omega arith) (omega arith),
      above,
    ) refl
call_again (Discard stamp) h =
    rw (split_first-joined 32 (codes "discard") (stamp_text stamp) (refl, (refl, (refl, (refl, (refl, (refl, (refl, tt))))))), stamp_reader.again stamp h) refl

pub call_reader : IsReader line_of HasLine call_at
call_reader = record { found = call_found; again = call_again }
