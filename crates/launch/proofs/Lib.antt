mod Causes
mod Dues
mod Reports
mod Starting
