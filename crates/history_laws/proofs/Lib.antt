mod CloneLaws
