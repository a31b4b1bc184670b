-- That a packed call is read again.
use Rattle.std.proofs.Common.{◌≡◌, ℕ, ◌++◌, List, Some, None, refl, ap, ◌∙◌, append_assoc, arith}
use Rattle.std.specs.Int.{w64, to_le_bytes}
use Rattle.std.proofs.lemmas.Bool.{ne_eqb}
use Rattle.plain_store.specs.declared.calls.Call.{Call}
use Rattle.plain_store.specs.declared.calls.Call.TheVariants.{Prepare, Commit, Get, Found, Collect, Discard}
use Rattle.packed.specs.Packing.{packed_text}
use Rattle.packed_steps.specs.PackedCalls.{packed_call, IsStoreCall}
use Rattle.packed_steps.specs.PackedCalls.{prepare_at, commit_at, get_at, get_version_at, find_at, collect_at, discard_at, call_by, call_at}
use Rattle.packed.proofs.Texts.{key_again, tag_again, stamp_again}
use Rattle.packed.proofs.Records.{record_again}

get_version_again : (key : List ℕ) (stamp : ℕ) (rest : List ℕ) → IsStoreCall (Get key (Some stamp)) → get_version_at ((packed_text key ++ to_le_bytes w64 stamp) ++ rest) ≡ Some (Get key (Some stamp), rest)
unfolding get_version_at
get_version_again key stamp rest h =
    let parted : (packed_text key ++ to_le_bytes w64 stamp) ++ rest ≡ packed_text key ++ (to_le_bytes w64 stamp ++ rest) = append_assoc (packed_text key) (to_le_bytes w64 stamp) rest in
    ap get_version_at parted ∙ rw (key_again key (to_le_bytes w64 stamp ++ rest) h.0, stamp_again stamp rest h.1) refl

pub call_again : (call : Call) (rest : List ℕ) → IsStoreCall call → call_at (packed_call call ++ rest) ≡ Some (call, rest)
unfolding call_at call_by prepare_at commit_at get_at find_at collect_at discard_at
call_again (Prepare version) rest h = rw (record_again version rest h) refl
call_again (Commit stamp) rest h = rw (stamp_again stamp rest h) refl
call_again (Get key None) rest h = rw (key_again key rest h) refl
call_again (Get key (Some stamp)) rest h = get_version_again key stamp rest h
call_again (Found tag) rest h = rw (tag_again tag rest h) refl
call_again (Collect keep) rest h = let some = h.positive in rw (ne_eqb keep 0 (λ e. omega (arith, some, e))) refl
call_again (Discard stamp) rest h = rw (stamp_again stamp rest h) refl
