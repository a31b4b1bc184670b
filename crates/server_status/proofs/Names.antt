-- A tenant's name is text: for `text_of`.
use Rattle.std.proofs.Common.{◌≡◌, ℕ, ◌<◌, List, arith}
use Rattle.std.specs.Prelude.{true}
use Rattle.std.specs.Str.{IsUtf8}
use Rattle.std.proofs.lemmas.List.Sums.{AllPass-from_list_all}
use Rattle.std.proofs.lemmas.Str.{IsUtf8-from_ascii}
use Rattle.std.proofs.lemmas.Str.Ascii.{IsAscii-from_all}
use Rattle.line_protocol.specs.StepSpelling.{IsName, is_tenant_byte}

tenant_byte_small : (byte : ℕ) → is_tenant_byte byte ≡ true → byte < 128
tenant_byte_small byte tenant = grind (arith, tenant)

pub name_is_utf8 : (name : List ℕ) → IsName name → IsUtf8 name
name_is_utf8 name is =
    IsUtf8-from_ascii name
    (IsAscii-from_all name (λ i d within. tenant_byte_small _ (AllPass-from_list_all is_tenant_byte name is.all_allowed i d within)))
