mod SettingLemmas
