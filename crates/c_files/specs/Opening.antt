-- How a service is made.
use Rattle.std.specs.Prelude.{◌≡◌, ◌⊎◌, ℕ, false, List, [], Option, Some, None, Result, Ok, Err, ⊤, string_bytes}
use Rattle.{decide_preconditions.specs.Boundaries.is_boundary, c_parts.specs.declared.keys.HashKeys.HashKeys}
use Rattle.c_parts.specs.declared.status.Failure.{Failure, TheVariants.{Refused, Memory, Absent, TooLarge}}
use Rattle.c_decisions.specs.Texts.{AreValuesOf, IsOptionalValue, IsValuesOf}
use Rattle.server_service.specs.{SiteSettings.IsSiteOf, declared.settings.{Divider.Divider, Settings.Settings}}
use Rattle.c_files.specs.declared.{held.HeldFiles.HeldFiles, settings.FilesOptions.FilesOptions}

-- the boundary of these bytes; `Refused` only if they are none
abbrev pub IsDividerOf : List ℕ → Result Divider Failure → Type 0
IsDividerOf text (Ok divider) = string_bytes divider.text ≡ text
IsDividerOf text (Err Refused) = is_boundary text ≡ false
IsDividerOf text (Err Memory) = ⊤
IsDividerOf text (Err Absent) = ⊥
IsDividerOf text (Err TooLarge) = ⊥

-- the settings that a caller hands in
pub record AreSettings (given : FilesOptions) (settings : Settings) : Type 0 where
  pub cache_control : IsOptionalValue given.cache_control.now (Ok settings.cache_control)
  pub hosts : AreValuesOf given.hosts.now settings.hosts.items
  pub negotiates : settings.negotiates ≡ given.negotiates
  pub divider : string_bytes settings.divider.text ≡ given.boundary.now
  pub cors : settings.cors ≡ None
  pub pages : settings.pages.items ≡ []

-- the settings, or one of them is none
abbrev pub IsSettingsOf : FilesOptions → Result Settings Failure → Type 0
IsSettingsOf given (Ok settings) = AreSettings given settings
IsSettingsOf given (Err Refused) =
    IsOptionalValue given.cache_control.now (Err Refused)
    ⊎ (IsValuesOf given.hosts.now (Err Refused) ⊎ (is_boundary given.boundary.now ≡ false))
IsSettingsOf given (Err Memory) = ⊤
IsSettingsOf given (Err Absent) = ⊥
IsSettingsOf given (Err TooLarge) = ⊥

-- a service with these settings, whose tags are hashed with these keys
abbrev pub IsNew : Settings → HashKeys → HeldFiles → Type 0
IsNew settings keys held = IsSiteOf settings held.service.site × (held.service.store.keys ≡ keys)
