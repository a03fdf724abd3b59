mod Closed
mod Gathering
mod Lists
mod Results
mod RuleKept
mod Turns
