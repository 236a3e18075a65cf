-- A body in JSON.
use Rattle.std.proofs.Common.{◌≡◌, ℕ, List, Some, None, Bool, true, false, if◌then◌else◌, ap, ◌∙◌, refl}
use Rattle.http_api.proofs.Common.{IsUtf8, is_utf8, IsUtf8-from_is_utf8, is_utf8-from_IsUtf8, Data, json_of}
use Rattle.serde_json.specs.Read.{read}

-- a text that reads is the body's JSON
pub json_of-read : (body : List ℕ) (d : Data) → IsUtf8 body → read body ≡ Some d → json_of body ≡ Some d
json_of-read body d utf8 e = ap (λ (t : Bool). if t then read body else None) (is_utf8-from_IsUtf8 body utf8) ∙ e

-- bytes that do not read are none
pub json_of-unread : (body : List ℕ) → (IsUtf8 body → read body ≡ None) → json_of body ≡ None
json_of-unread body none = by (is_utf8 body) refl
  where
    by : (t : Bool) → is_utf8 body ≡ t → (if t then read body else None) ≡ None
    by true e = none (IsUtf8-from_is_utf8 body e)
    by false e = refl
